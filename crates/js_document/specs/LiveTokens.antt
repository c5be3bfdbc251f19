-- The live tokens of rows, from one of them on, and the one that stands at an offset.
use Rattle.std.specs.Prelude.{◌≡◌, ℕ, ◌+◌, ◌-◌, ◌<◌, ◌≤◌, List, [], ◌∷◌, take, drop, length, slice_get, Option, Some, None}
use Rattle.std.specs.Prelude.{if◌then◌else◌}
use Rattle.std.specs.List.{AllByRecursion}
use Rattle.js_kind.specs.TokenParts.{TokenParts}
use Rattle.js_session.specs.declared.row.Row.{Row}
use Rattle.js_document.specs.declared.gap.Entry.{Entry}
use Rattle.js_document.specs.Gap.{count_tokens, reads_again}

-- the live tokens from this one on, behind which these rows stand: where one of them reads it again, another is there
abbrev pub tokens_with : TokenParts → List Row → List TokenParts
tokens_with token [] = token ∷ []
tokens_with token (row ∷ rows) =
    if reads_again row then tokens_with row.token rows else token ∷ tokens_with row.token rows

-- those of rows
abbrev pub tokens_in : List Row → List TokenParts
tokens_in [] = []
tokens_in (row ∷ rows) = tokens_with row.token rows

-- The byte at the offset belongs to the token.
pub record Covers (offset : ℕ) (token : TokenParts) : Type 0 where
  pub starts : token.start ≤ offset
  pub ends : offset < token.end

-- One of the tokens is this one, and the byte at the offset belongs to it.
pub record IsCovered (offset : ℕ) (tokens : List TokenParts) (token : TokenParts) : Type 0 where
  pub index : ℕ
  pub is_there : slice_get tokens index ≡ Some token
  pub covers : Covers offset token

-- The token that the byte at the offset belongs to. None: it belongs to none of them.
abbrev pub IsTokenAt : ℕ → List TokenParts → Option TokenParts → Type 0
IsTokenAt offset tokens None = AllByRecursion (λ token. Covers offset token → ⊥) tokens
IsTokenAt offset tokens (Some token) = IsCovered offset tokens token

-- The row with the index is the last that starts at the place or before it.
pub record IsLastFrom (place : ℕ) (rows : List Row) (index : ℕ) : Type 0 where
  pub row : Row
  pub is_there : slice_get rows index ≡ Some row
  pub starts : row.token.start ≤ place
  pub none_later : (later : ℕ) (other : Row) → index < later → slice_get rows later ≡ Some other
      → place < other.token.start

-- The last row that starts at the place or before it. None: all start behind it.
abbrev pub IsRowAt : ℕ → List Row → Option ℕ → Type 0
IsRowAt place rows None =
    (index : ℕ) (row : Row) → slice_get rows index ≡ Some row → place < row.token.start
IsRowAt place rows (Some index) = IsLastFrom place rows index

-- The first entries, so many, start at the place or before it, and those from there on do not.
pub record StartUpTo {K : Type 0} (place : ℕ) (front : List (Entry K)) (count : ℕ) : Type 0 where
  pub few : count ≤ length front
  pub first : (index : ℕ) (entry : Entry K) → index < count → slice_get front index ≡ Some entry
      → entry.row.token.start ≤ place
  pub rest : (index : ℕ) (entry : Entry K) → count ≤ index → slice_get front index ≡ Some entry
      → place < entry.row.token.start

-- Of the rows from the first index up to the second the last one has a live token, and they have no other.
abbrev pub TakesLive : List Row → ℕ → ℕ → Type 0
TakesLive rows index behind =
    (last : Row) → slice_get rows (behind - 1) ≡ Some last
    → tokens_in (drop index rows) ≡ last.token ∷ tokens_in (drop behind rows)

-- The live token with the index begins with this row: so many stand before it, and there are more with it. Or there are
-- no more tokens than that, and this is how many rows there are.
pub record BeginsToken (rows : List Row) (index row : ℕ) : Type 0 where
  pub few : row ≤ length rows
  pub before : count_tokens (take row rows) ≤ index
  pub next : row < length rows → index < count_tokens (take (row + 1) rows)
