-- The rows at the front of a report that an edit leaves as they are.
use Rattle.std.specs.Prelude.{◌≡◌, ℕ, zero, suc, ◌+◌, ◌≤◌, List, [], ◌∷◌, Option, Some, None}
use Rattle.js_session.specs.declared.command.Command.{Command}
use Rattle.js_session.specs.declared.row.Row.{Row}

-- The row may stay: it has the command of the new list, and its token ends four bytes or more before the edit.
pub record MayStay (start : ℕ) (command : Option Command) (row : Row) : Type 0 where
  pub command_is : row.command ≡ command
  pub ends_before : row.token.end + 4 ≤ start

-- So many rows behind the first one are kept: the longest front of rows that may stay, with the commands of the new
-- list.
abbrev pub IsKeptBehind : ℕ → List Row → List Command → ℕ → Type 0
IsKeptBehind start [] commands kept = kept ≡ 0
IsKeptBehind start (row ∷ rows) [] kept = kept ≡ 0
IsKeptBehind start (row ∷ rows) (c ∷ cs) zero = MayStay start (Some c) row → ⊥
IsKeptBehind start (row ∷ rows) (c ∷ cs) (suc kept) = MayStay start (Some c) row × IsKeptBehind start rows cs kept

-- So many rows are kept, with the first one, which has no command.
abbrev pub IsKept : ℕ → List Row → List Command → ℕ → Type 0
IsKept start [] commands kept = kept ≡ 0
IsKept start (row ∷ rows) commands zero = MayStay start None row → ⊥
IsKept start (row ∷ rows) commands (suc kept) = MayStay start None row × IsKeptBehind start rows commands kept
