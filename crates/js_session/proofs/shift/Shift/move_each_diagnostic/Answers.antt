use Rattle.std.proofs.Common.{arith}
use Rattle.std.proofs.lemmas.Grind.{common_steps}
use Rattle.std.proofs.lemmas.List.Edits.{map_over_more}
use Rattle.js_session.specs.Shifted.{shifted_diagnostic}
use Rattle.js_session.proofs.shift.Shift.move_each_diagnostic.Goals as goal

pub loop-diagnostic-preserved : goal.loop-diagnostic-preserved
loop-diagnostic-preserved c =
    rw c.move_diagnostic.ensures
    (grind (arith, common_steps, map_over_more (shifted_diagnostic c.args.self.now.from c.args.self.now.to)))
