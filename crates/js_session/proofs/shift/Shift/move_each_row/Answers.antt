use Rattle.std.proofs.Common.{arith}
use Rattle.std.proofs.lemmas.Grind.{common_steps}
use Rattle.std.proofs.lemmas.List.Edits.{map_over_more}
use Rattle.js_session.specs.Shifted.{shifted_row}
use Rattle.js_session.proofs.shift.Shift.move_each_row.Goals as goal

pub loop-row-preserved : goal.loop-row-preserved
loop-row-preserved c =
    rw c.move_row.ensures
    (grind (arith, common_steps, map_over_more (shifted_row c.args.self.now.from c.args.self.now.to)))
