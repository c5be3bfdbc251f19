-- The row at which the rows of an edited text join the old ones, each offset moved.
use Rattle.std.specs.Prelude.{◌≡◌, ℕ, suc, ◌≤◌, ◌-◌, ◌⊎◌, List, [], ◌∷◌, length, drop, Option, Some, None, slice_get}
use Rattle.js_kind.specs.TokenParts.{TokenParts}
use Rattle.js_session.specs.declared.command.Command.{Command}
use Rattle.js_session.specs.declared.row.Row.{Row}
use Rattle.js_session.specs.Shifted.{shifted_token}

-- What the rows of an edited text may join. What stood from one place on in the old text stands from another one on in
-- the new text; there are the old rows, the commands that they answer, and the commands of the new text.
pub record JoiningState : Type 0 where
  pub from : ℕ
  pub to : ℕ
  pub rows : List Row
  pub old_commands : List Command
  pub commands : List Command

-- the token, where its place is left aside
abbrev pub at_start : TokenParts → TokenParts
at_start token = record token { start = 0; end = 0 }

-- A token that stands behind the edit in the old text, and in the new text is the same one, moved.
pub record IsMovedToken (from to : ℕ) (old new : TokenParts) : Type 0 where
  pub behind_old : from ≤ old.start
  pub behind_new : to ≤ new.start
  pub same : new ≡ shifted_token from to old

-- The new row at the index joins an old row: behind both come the same commands, and its token is that of the old one,
-- moved.
pub record Joins (j : JoiningState) (index : ℕ) (row : Row) : Type 0 where
  pub old_index : ℕ
  pub old_row : Row
  pub is_there : slice_get j.rows old_index ≡ Some old_row
  pub commands_are : drop index j.commands ≡ drop old_index j.old_commands
  pub moved : IsMovedToken j.from j.to old_row.token row.token

-- Of rows that are counted from an index on, the first that has the property is the found one; None: no row has it.
abbrev pub FirstFrom : (ℕ → Row → Type 0) → ℕ → List Row → Option ℕ → Type 0
FirstFrom P index [] found = found ≡ None
FirstFrom P index (row ∷ rows) found =
    (P index row × (found ≡ Some index)) ⊎ ((P index row → ⊥) × FirstFrom P (suc index) rows found)

-- How many commands at the end of both lists are the same.
pub record IsCommonEnd (old new : List Command) (common : ℕ) : Type 0 where
  pub in_old : common ≤ length old
  pub in_new : common ≤ length new
  pub same : (n : ℕ) → n ≤ common → drop (length new - n) new ≡ drop (length old - n) old
  pub no_more : (n : ℕ) → n ≤ length old → n ≤ length new → drop (length new - n) new ≡ drop (length old - n) old
      → n ≤ common
