-- A text without its comments, from a place on.
use Rattle.std.proofs.Common.{◌≡◌, ℕ, ◌+◌, ◌-◌, ◌≤◌, List, [], ◌∷◌, ◌++◌, length, take, drop, sym, ◌∙◌, ap}
use Rattle.std.proofs.Common.{arith, append_assoc}
use Rattle.std.specs.Prelude.{slice_range}
use Rattle.std.specs.Str.{IsCharBoundary, IsUtf8}
use Rattle.std.proofs.lemmas.Str.{IsCharBoundary-start}
use Rattle.std.proofs.Math.Seq.{drop-append_seam}
use Rattle.std.proofs.lemmas.List.{drop-take, length-append, length-drop, length-take-le, take-append-drop, take-append-le, take-take}
use Rattle.js_text.specs.declared.comment.Comment.{Comment}
use Rattle.js_strip.specs.StripText.{StandInOrder, StandsFrom, strip_text, without_comment}
use Rattle.js_grammar.specs.Blanks.{stand_in}

-- what is left from the place on, without these comments
abbrev pub stripped_from : List ℕ → ℕ → List Comment → List ℕ
stripped_from text place [] = drop place text
stripped_from text place (c ∷ cs) =
    slice_range text place c.span.start ++ stand_in c.kind ∷ stripped_from text c.span.end cs

-- the bytes up to a place, and then those up to a later one
take_split : (text : List ℕ) (p q : ℕ) → p ≤ q → take q text ≡ take p text ++ slice_range text p q
take_split text p q h =
    let sum : p + (q - p) ≡ q = omega (arith, h) in
    sym (take-append-drop p (take q text))
    ∙ ap (λ t. t ++ drop p (take q text)) (take-take p q text h)
    ∙ ap (λ n. take p text ++ drop p (take n text)) (sym sum)
    ∙ ap (λ t. take p text ++ t) (drop-take p (q - p) text)

-- one comment, in a text of which the rest is already without its comments
replaced : (text rest : List ℕ) (p : ℕ) (c : Comment) → StandsFrom text p c
    → without_comment (take c.span.end text ++ rest) c
    ≡ take p text ++ (slice_range text p c.span.start ++ stand_in c.kind ∷ rest)
replaced text rest p c s =
    let inside = s.ends.0 in
    let whole : length (take c.span.end text) ≡ c.span.end = length-take-le c.span.end text inside in
    let behind : drop c.span.end (take c.span.end text ++ rest) ≡ rest =
    ap (λ n. drop n (take c.span.end text ++ rest)) (sym whole) ∙ drop-append_seam (take c.span.end text) rest in
    let front : take c.span.start (take c.span.end text ++ rest) ≡ take c.span.start text =
    take-append-le c.span.start (take c.span.end text) rest (omega (arith, whole, s.ordered))
    ∙ take-take c.span.start c.span.end text s.ordered in
    ap (λ t. t ++ stand_in c.kind ∷ drop c.span.end (take c.span.end text ++ rest)) front
    ∙ ap (λ t. take c.span.start text ++ stand_in c.kind ∷ t) behind
    ∙ ap (λ t. t ++ stand_in c.kind ∷ rest) (take_split text p c.span.start s.behind)
    ∙ append_assoc (take p text) (slice_range text p c.span.start) (stand_in c.kind ∷ rest)

-- The text without its comments is what stands before the place, and what is left from there on.
pub stripped_behind : (text : List ℕ) (p : ℕ) (comments : List Comment) → StandInOrder text p comments
    → strip_text text comments ≡ take p text ++ stripped_from text p comments
stripped_behind text p [] stand = sym (take-append-drop p text)
stripped_behind text p (c ∷ cs) stand =
    ap (λ t. without_comment t c) (stripped_behind text c.span.end cs stand.1)
    ∙ replaced text (stripped_from text c.span.end cs) p c stand.0

pub stripped_whole : (text : List ℕ) (comments : List Comment) → StandInOrder text 0 comments
    → strip_text text comments ≡ stripped_from text 0 comments
stripped_whole text comments stand = stripped_behind text 0 comments stand

-- What stands between two places has as many bytes as lie between them.
between_length : (text : List ℕ) (p q : ℕ) → p ≤ q → q ≤ length text → length (slice_range text p q) ≡ q - p
between_length text p q ordered inside =
    let rest = length-drop p text in length-take-le (q - p) (drop p text) (omega (arith, rest, ordered, inside))

-- What is left without the comments is no longer than what was left of the text.
left_short : (text : List ℕ) (p : ℕ) (comments : List Comment) → StandInOrder text p comments → p ≤ length text
    → p + length (stripped_from text p comments) ≤ length text
left_short text p [] stand inside = let rest = length-drop p text in omega (arith, rest, inside)
left_short text p (c ∷ cs) stand inside =
    let s = stand.0 in
    let behind = s.behind in
    let some = s.some in
    let end = s.ends.0 in
    let start = s.starts.0 in
    let more = left_short text c.span.end cs stand.1 end in
    let front = between_length text p c.span.start behind start in
    let both = length-append (slice_range text p c.span.start) (stand_in c.kind ∷ stripped_from text c.span.end cs) in
    omega (arith, behind, some, end, more, front, both)

-- A text without its comments is no longer than with them.
pub stripped_short : (text : List ℕ) (comments : List Comment) → StandInOrder text 0 comments
    → length (strip_text text comments) ≤ length text
stripped_short text comments stand =
    let same = ap length (stripped_whole text comments stand) in
    let short = left_short text 0 comments stand (omega arith) in
    omega (arith, same, short)

-- So much was written of a text without its comments: up to the place, where these comments are left.
pub record StrippedSoFar (text : List ℕ) (comments left : List Comment) (place : ℕ) (written : List ℕ) : Type 0 where
  pub whole : written ++ stripped_from text place left ≡ strip_text text comments
  pub stand : StandInOrder text place left
  pub at : IsCharBoundary text place

pub so_far_start : (text : List ℕ) (comments : List Comment) → IsUtf8 text → StandInOrder text 0 comments
    → StrippedSoFar text comments comments 0 []
so_far_start text comments u stand =
    record { whole = sym (stripped_whole text comments stand); stand = stand; at = IsCharBoundary-start text u }
