-- Places that hold nothing.
use Rattle.std.specs.Prelude.{◌≡◌, ℕ, ◌≤◌, Bool, false, List, slice_index_or}

-- no place from this one on holds an item
abbrev pub IsEmptyFrom : List Bool → ℕ → Type 0
IsEmptyFrom filled from = (k : ℕ) → from ≤ k → slice_index_or filled k false ≡ false
