use Rattle.std.proofs.Common.{◌<◌, ◌∙◌, arith, rules}
use Rattle.std.specs.Mem.Slots.{slots_items, slots_filled, slots_counts}
use Rattle.js_places.proofs.Empty.{one_more}
use Rattle.js_places.proofs.block.move_items.Goals as goal

pub loop-at-preserved : goal.loop-at-preserved
loop-at-preserved g c =
    let row = c.loop-at.row in
    let other = c.loop-at.other in
    let i = c.loop-at.at in
    let places = c.loop-at.invariant.places in
    let moved = c.move_to.ensures in
    let in_row : i < c.args.count = c.loop-at-test.true in
    record {
      same = moved.left.0 ∙ c.loop-at.invariant.same;
      have = rw (moved.left.0, moved.left.1, moved.filled)
          (one_more i c.args.count (slots_items row) (slots_items other) (slots_items c.move_to.new.other)
          (slots_filled row) (slots_filled other) in_row
          (omega (arith, c.requires.filled.0, places.0.count, (slots_counts row).0))
          (omega (arith, c.requires.room, places.1.count, (slots_counts other).0))
          (omega (arith, c.requires.filled.0, places.0.count, (slots_counts row).1))
          (omega (arith, c.requires.room, places.1.count, (slots_counts other).1)) moved.items
          c.loop-at.invariant.have);
      places = (search rules, search rules);
    }
