use Rattle.std.proofs.Common.{◌≡◌}
use Rattle.std.specs.Mem.Slots.{slots_items, slots_filled, SamePlaces}
use Rattle.js_places.proofs.Empty.{HaveMoved}
use Rattle.js_places.proofs.block.move_items.Given as goal

abbrev pub invariant-loop-at : goal.invariant-loop-at
invariant-loop-at g l = record {
  same : slots_items l.row ≡ slots_items l.initial.row;
  have : HaveMoved l.at l.count (slots_items l.row) (slots_items l.other) (slots_filled l.row) (slots_filled l.other);
  places : SamePlaces l.initial.row l.row × SamePlaces l.initial.other l.other;
}
