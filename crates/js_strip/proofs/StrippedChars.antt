-- The characters of a text without its comments.
use Rattle.std.proofs.Common.{◌≡◌, ℕ, zero, suc, ◌+◌, ◌-◌, ◌≤◌, List, [], ◌∷◌, ◌++◌, take, drop, sym}
use Rattle.std.proofs.Common.{◌∙◌, ap, subst, arith, append_assoc}
use Rattle.std.specs.Prelude.{slice_range}
use Rattle.std.specs.Str.{IsAscii, IsCharBoundary, IsUtf8, chars}
use Rattle.std.proofs.lemmas.List.{drop-drop, drop-take, take-append-drop, take-take}
use Rattle.std.proofs.lemmas.List.Folds.{drop_split}
use Rattle.std.proofs.lemmas.Str.{IsUtf8-between, IsUtf8-from_ascii, chars-IsAscii, chars-append}
use Rattle.js_text.specs.Characters.{from_place}
use Rattle.js_text.specs.declared.comment.Comment.{Comment}
use Rattle.js_text.specs.declared.comment.CommentKind.{CommentKind}
use Rattle.js_text.specs.declared.comment.CommentKind.TheVariants.{Line, SingleLineBlock, MultiLineBlock, HtmlOpen}
use Rattle.js_text.specs.declared.comment.CommentKind.TheVariants.{HtmlClose}
use Rattle.js_text.specs.declared.source_type.SourceType.{SourceType}
use Rattle.js_grammar.specs.Gap.{piece}
use Rattle.js_grammar.specs.Blanks.{stand_in}
use Rattle.js_strip.proofs.Standing.{StandBetween}
use Rattle.js_strip.proofs.StrippedText.{stripped_from}
use Rattle.js_grammar.proofs.Without.{Without, dropped, kept_all, same}

-- the characters between two places
pub chars_between : (text : List ℕ) (p q : ℕ) → IsUtf8 text → p ≤ q → IsCharBoundary text p → IsCharBoundary text q
    → from_place text p ≡ chars (slice_range text p q) ++ from_place text q
chars_between text p q u ordered b d =
    ap chars (drop_split text p q ordered)
    ∙ chars-append (slice_range text p q) (drop q text) (IsUtf8-between text p q u ordered b d)

one_is_ascii : (kind : CommentKind) → IsAscii (stand_in kind ∷ [])
one_is_ascii Line zero = omega arith
one_is_ascii Line (suc i) = omega arith
one_is_ascii SingleLineBlock zero = omega arith
one_is_ascii SingleLineBlock (suc i) = omega arith
one_is_ascii MultiLineBlock zero = omega arith
one_is_ascii MultiLineBlock (suc i) = omega arith
one_is_ascii HtmlOpen zero = omega arith
one_is_ascii HtmlOpen (suc i) = omega arith
one_is_ascii HtmlClose zero = omega arith
one_is_ascii HtmlClose (suc i) = omega arith

pub chars_stand_in : (kind : CommentKind) (bs : List ℕ)
    → chars (stand_in kind ∷ bs) ≡ stand_in kind ∷ chars bs
chars_stand_in kind bs =
    chars-append (stand_in kind ∷ []) bs (IsUtf8-from_ascii (stand_in kind ∷ []) (one_is_ascii kind))
    ∙ ap (λ t. t ++ chars bs) (chars-IsAscii (stand_in kind ∷ []) (one_is_ascii kind))

-- bytes between two places, by one between them
pub slice_split : (text : List ℕ) (p q r : ℕ) → p ≤ q → q ≤ r
    → slice_range text p r ≡ slice_range text p q ++ slice_range text q r
slice_split text p q r h k =
    let sum : (q - p) + (r - q) ≡ r - p = omega (arith, h, k) in
    let there : p + (q - p) ≡ q = omega (arith, h) in
    let short : q - p ≤ r - p = omega (arith, h, k) in
    sym (take-append-drop (q - p) (take (r - p) (drop p text)))
    ∙ ap (λ t. t ++ drop (q - p) (take (r - p) (drop p text))) (take-take (q - p) (r - p) (drop p text) short)
    ∙ ap (λ n. slice_range text p q ++ drop (q - p) (take n (drop p text))) (sym sum)
    ∙ ap (λ t. slice_range text p q ++ t) (drop-take (q - p) (r - q) (drop p text))
    ∙ ap (λ t. slice_range text p q ++ take (r - q) t)
    (drop-drop (q - p) p text ∙ ap (λ n. drop n text) there)

-- Where the comments stand behind a place, what is left from an earlier one begins with what is between.
pub stripped_split : (text : List ℕ) (t : SourceType) (p q e : ℕ) (comments : List Comment) → p ≤ q
    → StandBetween text (piece t) q comments e
    → stripped_from text p comments ≡ slice_range text p q ++ stripped_from text q comments
stripped_split text t p q e [] h stand = drop_split text p q h
stripped_split text t p q e (c ∷ cs) h stand =
    let rest = stand_in c.kind ∷ stripped_from text c.span.end cs in
    ap (λ s. s ++ rest) (slice_split text p q c.span.start h stand.0)
    ∙ append_assoc (slice_range text p q) (slice_range text q c.span.start) rest

pub stripped_chars : (text : List ℕ) (t : SourceType) (p q e : ℕ) (comments : List Comment) → IsUtf8 text → p ≤ q
    → IsCharBoundary text p → IsCharBoundary text q → StandBetween text (piece t) q comments e
    → chars (stripped_from text p comments)
    ≡ chars (slice_range text p q) ++ chars (stripped_from text q comments)
stripped_chars text t p q e comments u h b d stand =
    ap chars (stripped_split text t p q e comments h stand)
    ∙ chars-append (slice_range text p q) (stripped_from text q comments) (IsUtf8-between text p q u h b d)

-- What is left without the comments is what is left, in which they are replaced.
pub without_from : (text : List ℕ) (t : SourceType) (p e : ℕ) (comments : List Comment) → IsUtf8 text
    → IsCharBoundary text p → StandBetween text (piece t) p comments e
    → Without t (from_place text p) (chars (stripped_from text p comments))
without_from text t p e [] u b stand = same
without_from text t p e (c ∷ cs) u b stand =
    let is = stand.1 in
    let part = chars (slice_range text p c.span.start) in
    let rest = stripped_from text c.span.end cs in
    let here = chars_between text p c.span.start u stand.0 b is.starts in
    let there : chars (stripped_from text p (c ∷ cs)) ≡ part ++ stand_in c.kind ∷ chars rest =
    chars-append (slice_range text p c.span.start) (stand_in c.kind ∷ rest)
    (IsUtf8-between text p c.span.start u stand.0 b is.starts)
    ∙ ap (λ s. part ++ s) (chars_stand_in c.kind rest) in
    let behind : Without t is.piece.rest (chars rest) =
    subst (λ h. Without t h (chars rest)) (sym is.rest) (without_from text t c.span.end e cs u is.ends stand.2) in
    subst (λ h. Without t h (chars (stripped_from text p (c ∷ cs)))) (sym here)
    (subst (Without t (part ++ from_place text c.span.start)) (sym there)
    (kept_all t part (from_place text c.span.start) (stand_in c.kind ∷ chars rest)
    (dropped is.line_had_ended is.piece c.kind is.here is.kind behind)))
