use Rattle.std.proofs.Common.{arith}
use Rattle.std.proofs.lemmas.Grind.{common_steps}
use Rattle.std.proofs.lemmas.List.Edits.{map_over_more}
use Rattle.js_session.specs.Shifted.{shifted_span}
use Rattle.js_session.proofs.shift.Shift.move_each_span.Goals as goal

pub loop-span-preserved : goal.loop-span-preserved
loop-span-preserved c =
    rw c.move_span.ensures
    (grind (arith, common_steps, map_over_more (shifted_span c.args.self.now.from c.args.self.now.to)))
