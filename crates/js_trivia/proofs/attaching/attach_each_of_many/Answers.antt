use Rattle.std.proofs.Common.{arith}
use Rattle.std.proofs.lemmas.Grind.{common_steps}
use Rattle.std.proofs.lemmas.List.Edits.{map_over_more}
use Rattle.js_trivia.specs.Attachment.{attach_alone}
use Rattle.js_trivia.proofs.attaching.attach_each_of_many.Goals as goal

pub loop-comment-preserved : goal.loop-comment-preserved
loop-comment-preserved c =
    rw (c.attach_alone.ensures, c.takes_comments-may_trail.ensures)
    (grind (arith, common_steps, map_over_more (attach_alone c.args.previous.now c.args.token.now)))
