use Rattle.std.proofs.Common.{◌≡◌, ◌<◌, ◌-◌, ◌++◌, ℕ, List, length, take}
use Rattle.std.specs.Prelude.{slice_index}
use Rattle.smallvec.specs.SmallVec.{SmallVec, HasRoomFor}
use Rattle.js_text.proofs.js_str.push_ascii.Given as goal

-- The bytes so far are ASCII characters and were added, and there is room for the others.
pub record Added (text before : List ℕ) (index : ℕ) (units : SmallVec ℕ) : Type 0 where
  pub ascii : (k : ℕ) → k < index → slice_index text k < 128
  pub added : units.items ≡ before ++ take index text
  pub room : HasRoomFor units (length text - index)

abbrev pub invariant-bytes : goal.invariant-bytes
invariant-bytes l = Added l.text l.fn.units.items l.b-index l.units
