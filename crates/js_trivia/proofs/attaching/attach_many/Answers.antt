use Rattle.std.proofs.Common.{arith}
use Rattle.std.proofs.lemmas.Grind.{common_steps}
use Rattle.std.proofs.lemmas.List.Edits.{map_over_more}
use Rattle.js_trivia.specs.Attachment.{attach_to}
use Rattle.js_trivia.proofs.attaching.attach_many.Goals as goal

pub loop-comment-preserved : goal.loop-comment-preserved
loop-comment-preserved c = grind (arith, common_steps, map_over_more (attach_to c.args.position c.args.attached_to))
