-- A squeezed text, told from a token on.
use Rattle.std.proofs.Common.{◌≡◌, ℕ, zero, suc, ◌≤◌, Bool, true, false, ◌==◌, List, [], ◌∷◌, ◌++◌, drop}
use Rattle.std.proofs.Common.{refl, sym, ◌∙◌, ap, arith, Option, Some, None}
use Rattle.std.specs.Prelude.{if◌then◌else◌, slice_get, slice_range}
use Rattle.std.specs.List.{filter, last_or}
use Rattle.std.specs.Str.{IsAscii, IsCharBoundary, IsUtf8, chars}
use Rattle.std.proofs.lemmas.List.Folds.{drop_split}
use Rattle.std.proofs.lemmas.Str.{IsUtf8-between, IsUtf8-from_ascii, chars-IsAscii, chars-append}
use Rattle.js_text.specs.Characters.{from_place}
use Rattle.js_kind.specs.TokenParts.{TokenParts}
use Rattle.js_lexer.specs.Lexer.{IsOnPlaces}
use Rattle.js_session.specs.declared.row.Row.{Row}
use Rattle.js_rewrite.specs.Space.{need_space}
use Rattle.js_squeeze.specs.SqueezeText.{first_reads, separator, separator_behind, squeezed, token_text}

-- the characters between two places
pub chars_between : (text : List ℕ) (p q : ℕ) → IsUtf8 text → p ≤ q → IsCharBoundary text p → IsCharBoundary text q
    → from_place text p ≡ chars (slice_range text p q) ++ from_place text q
chars_between text p q u ordered b d =
    ap chars (drop_split text p q ordered)
    ∙ chars-append (slice_range text p q) (drop q text) (IsUtf8-between text p q u ordered b d)

-- the characters of a token
abbrev pub characters : List ℕ → TokenParts → List ℕ
characters text token = chars (token_text text token)

pub characters_here : (text : List ℕ) (token : TokenParts) → IsUtf8 text → IsOnPlaces text token
    → from_place text token.start ≡ characters text token ++ from_place text token.end
characters_here text token u lies = chars_between text token.start token.end u lies.ordered lies.start lies.end

-- the token that is read last in the place of this one, by the rows behind it
abbrev pub final : TokenParts → List Row → TokenParts
final token [] = token
final token (row ∷ rows) = if first_reads row then token else final row.token rows

-- that token, and those behind it
abbrev pub finals : TokenParts → List Row → List TokenParts
finals token [] = token ∷ []
finals token (row ∷ rows) = if first_reads row then token ∷ finals row.token rows else finals row.token rows

-- The characters that are written from the token on, by the rows behind it.
abbrev pub written : List ℕ → TokenParts → List Row → List ℕ
written text token [] = from_place text token.start
written text token (row ∷ rows) =
    if first_reads row
    then characters text token
    ++ (separator_behind text token row (final row.token rows) ++ written text row.token rows)
    else written text row.token rows

-- one character in front
one_ascii : (c : ℕ) (bs : List ℕ) → IsAscii (c ∷ []) → chars ((c ∷ []) ++ bs) ≡ c ∷ chars bs
one_ascii c bs ascii =
    chars-append (c ∷ []) bs (IsUtf8-from_ascii (c ∷ []) ascii) ∙ ap (λ t. t ++ chars bs) (chars-IsAscii (c ∷ []) ascii)

line_feed_ascii : IsAscii (10 ∷ [])
line_feed_ascii zero = omega arith
line_feed_ascii (suc i) = omega arith

space_ascii : IsAscii (32 ∷ [])
space_ascii zero = omega arith
space_ascii (suc i) = omega arith

-- what stands between two tokens stands before the characters of the rest
separator_chars : (text : List ℕ) (before : TokenParts) (row : Row) (token : TokenParts) (bs : List ℕ)
    → chars (separator_behind text before row token ++ bs) ≡ separator_behind text before row token ++ chars bs
separator_chars text before row token bs =
    by_flags (row.token.start == row.place) row.token.is_on_new_line
    (need_space before.kind (last_or None (chars (token_text text before)))
    (slice_get (chars (token_text text token)) 0))
  where
    by_flags : (a b c : Bool)
        → chars ((if a then [] else if b then 10 ∷ [] else if c then 32 ∷ [] else []) ++ bs)
        ≡ (if a then [] else if b then 10 ∷ [] else if c then 32 ∷ [] else []) ++ chars bs
    by_flags true b c = refl
    by_flags false true c = one_ascii 10 bs line_feed_ascii
    by_flags false false true = one_ascii 32 bs space_ascii
    by_flags false false false = refl

pub optional_chars : (text : List ℕ) (before : Option TokenParts) (row : Row) (token : TokenParts) (bs : List ℕ)
    → chars (separator text before row token ++ bs) ≡ separator text before row token ++ chars bs
optional_chars text None row token bs = refl
optional_chars text (Some before) row token bs = separator_chars text before row token bs

-- the rows' tokens lie on places of the text
abbrev pub TokensLie : List ℕ → List Row → Type 0
TokensLie text [] = Unit {0}
TokensLie text (row ∷ rows) = IsOnPlaces text row.token × TokensLie text rows

token_chars : (text : List ℕ) (token : TokenParts) (bs : List ℕ) → IsUtf8 text → IsOnPlaces text token
    → chars (token_text text token ++ bs) ≡ characters text token ++ chars bs
token_chars text token bs u lies =
    chars-append (token_text text token) bs
    (IsUtf8-between text token.start token.end u lies.ordered lies.start lies.end)

-- The text of the last tokens, the first of which the row read first, is what is written from there on.
pub squeezed_written : (text : List ℕ) (before : Option TokenParts) (step : Row) (token : TokenParts) (rows : List Row)
    → IsUtf8 text → IsOnPlaces text token → TokensLie text rows
    → chars (squeezed text before (step ∷ filter first_reads rows) (finals token rows))
    ≡ separator text before step (final token rows) ++ written text token rows
squeezed_written text before step token [] u lies later =
    optional_chars text before step token (token_text text token ++ drop token.end text)
    ∙ ap (λ t. separator text before step token ++ t)
    (token_chars text token (drop token.end text) u lies ∙ sym (characters_here text token u lies))
squeezed_written text before step token (row ∷ rows) u lies later =
    by_row (squeezed_written text (Some token) row row.token rows u later.0 later.1)
    (squeezed_written text before step row.token rows u later.0 later.1) (first_reads row) refl
  where
    by_row : chars (squeezed text (Some token) (row ∷ filter first_reads rows) (finals row.token rows))
        ≡ separator text (Some token) row (final row.token rows) ++ written text row.token rows
        → chars (squeezed text before (step ∷ filter first_reads rows) (finals row.token rows))
        ≡ separator text before step (final row.token rows) ++ written text row.token rows
        → (b : Bool) → first_reads row ≡ b
        → chars (squeezed text before (step ∷ filter first_reads (row ∷ rows)) (finals token (row ∷ rows)))
        ≡ separator text before step (final token (row ∷ rows)) ++ written text token (row ∷ rows)
    by_row behind again true e =
        rw e
        (optional_chars text before step token
        (token_text text token
        ++ squeezed text (Some token) (row ∷ filter first_reads rows) (finals row.token rows))
        ∙ ap (λ t. separator text before step token ++ t)
        (token_chars text token
        (squeezed text (Some token) (row ∷ filter first_reads rows) (finals row.token rows)) u lies
        ∙ ap (λ t. characters text token ++ t) behind))
    by_row behind again false e = rw e again
