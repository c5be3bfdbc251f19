use Rattle.std.proofs.Common.{◌≡◌, ◌≤◌}
use Rattle.std.specs.Mem.Slots.{slots_items, slots_filled, SamePlaces}
use Rattle.std.specs.Mem.Slots.Ownership.{Filled}
use Rattle.js_places.specs.Places.{IsEmptyFrom}
use Rattle.js_places.proofs.block.drop_behind.Given as goal

abbrev pub invariant-loop-left : goal.invariant-loop-left
invariant-loop-left g l = record {
  from : l.from ≤ l.left;
  within : l.left ≤ l.count;
  items : slots_items l.row ≡ slots_items l.initial.row;
  filled : Filled (slots_filled l.row) 0 l.left;
  all : IsEmptyFrom (slots_filled l.row) l.left;
  places : SamePlaces l.initial.row l.row;
}

abbrev pub decreases-loop-left : goal.decreases-loop-left
decreases-loop-left g l = l.left
