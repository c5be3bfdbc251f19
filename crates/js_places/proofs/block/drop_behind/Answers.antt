use Rattle.std.proofs.Common.{◌<◌, ◌∙◌, arith, rules}
use Rattle.std.specs.Mem.Slots.{slots_filled}
use Rattle.js_places.proofs.Empty.{last_taken}
use Rattle.js_places.proofs.block.drop_behind.Goals as goal

pub loop-left-preserved : goal.loop-left-preserved
loop-left-preserved g c =
    let before = c.loop-left.invariant in
    let some : 0 < c.loop-left.left = omega (arith, c.loop-left-test.true) in
    let taken = last_taken (slots_filled c.loop-left.row) c.loop-left.left some before.filled before.all in
    record {
      from = omega (arith, c.loop-left-test.true);
      within = omega (arith, before.within);
      items = c.take.ensures.items ∙ before.items;
      filled = rw c.take.ensures.filled taken.0;
      all = rw c.take.ensures.filled taken.1;
      places = search rules;
    }
