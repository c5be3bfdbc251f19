use Rattle.std.proofs.Common.{◌∙◌, ap, ◌-◌}
use Rattle.js_trivia.specs.Marks.{no_side_effects_applied}
use Rattle.js_trivia.specs.Trivia.{comment_starts}
use Rattle.js_trivia.proofs.Marking.{starts_put_part, starts_of_marked}
use Rattle.js_trivia.proofs.marks.mark_no_side_effects_within.Goals as goal

pub returns-clause-starts : goal.returns-clause-starts
returns-clause-starts c =
    starts_put_part c.args.range.start (c.args.range.end - c.args.range.start) c.args.comments.now
    c.mark_each_without_side_effects.new.comments
    (ap comment_starts c.mark_each_without_side_effects.ensures ∙ starts_of_marked no_side_effects_applied _)
