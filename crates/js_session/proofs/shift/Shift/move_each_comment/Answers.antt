use Rattle.std.proofs.Common.{arith}
use Rattle.std.proofs.lemmas.Grind.{common_steps}
use Rattle.std.proofs.lemmas.List.Edits.{map_over_more}
use Rattle.js_session.specs.Shifted.{shifted_comment}
use Rattle.js_session.proofs.shift.Shift.move_each_comment.Goals as goal

pub loop-comment-preserved : goal.loop-comment-preserved
loop-comment-preserved c =
    rw c.move_comment.ensures
    (grind (arith, common_steps, map_over_more (shifted_comment c.args.self.now.from c.args.self.now.to)))
