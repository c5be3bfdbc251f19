use Rattle.std.proofs.Common.{arith}
use Rattle.std.proofs.lemmas.Grind.{common_steps}
use Rattle.std.proofs.lemmas.List.Edits.{map_over_more}
use Rattle.js_trivia.specs.Marks.{mark, no_side_effects_applied}
use Rattle.js_trivia.proofs.marks.mark_each_without_side_effects.Goals as goal

pub loop-comment-preserved : goal.loop-comment-preserved
loop-comment-preserved c = rw c.no_side_effects_applied-comment.ensures (grind (arith, common_steps, map_over_more (mark no_side_effects_applied)))
