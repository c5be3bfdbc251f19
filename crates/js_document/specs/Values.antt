-- The values of live tokens, and the one that stands at an offset.
use Rattle.std.specs.Prelude.{◌≡◌, ℕ, ◌+◌, Bool, false, List, [], ◌∷◌, map, slice_get, Option, None, Some, if◌then◌else◌}
use Rattle.std.specs.List.{AllByRecursion}
use Rattle.std.specs.Option.{option_map, option_map_or}
use Rattle.js_text.specs.declared.value.RowValue.{RowValue}
use Rattle.js_kind.specs.TokenParts.{TokenParts}
use Rattle.js_session.specs.declared.command.Command.{Command}
use Rattle.js_session.specs.declared.row.Row.{Row}
use Rattle.js_lists.specs.LiveLists.{live_taken}
use Rattle.js_lists.specs.Taken.{Taken}
use Rattle.js_document.specs.Gap.{reads_again}
use Rattle.js_document.specs.LiveTokens.{Covers}

-- the values of the tokens that are live after the commands, in order: each is that of the row that read the token
abbrev pub live_values : List Command → List Row → List RowValue
live_values commands rows = map (λ (x : Taken). x.value) (live_taken commands rows)

-- This is the value of the token that the byte at the offset belongs to, which is the one with the token's index; and
-- there is none where the byte belongs to no token.
pub record IsValueAt (offset : ℕ) (tokens : List TokenParts) (values : List RowValue) (value : Option RowValue)
    : Type 0 where
  pub of_token : (index : ℕ) (token : TokenParts) → slice_get tokens index ≡ Some token → Covers offset token
      → value ≡ slice_get values index
  pub none : AllByRecursion (λ token. Covers offset token → ⊥) tokens → value ≡ None

-- there is a first one of the rows, and it reads the token before it again
abbrev pub starts_again : List Row → Bool
starts_again [] = false
starts_again (row ∷ rows) = reads_again row

-- the rows whose tokens are live: all but those whose token the next row reads again
abbrev pub live_rows_in : List Row → List Row
live_rows_in [] = []
live_rows_in (row ∷ rows) = if starts_again rows then live_rows_in rows else row ∷ live_rows_in rows

-- the values of these tokens
abbrev pub values_in : List Row → List RowValue
values_in rows = map (λ (row : Row). row.value) (live_rows_in rows)

-- the value of the token of the row with the index, if there is such a row and its token is live
abbrev pub live_value_at : List Row → ℕ → Option RowValue
live_value_at rows index =
    if option_map_or reads_again (slice_get rows (index + 1)) false then None
    else option_map (λ (row : Row). row.value) (slice_get rows index)
