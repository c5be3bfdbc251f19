use Rattle.js_trivia.proofs.Starts.{starts_put_mid, starts_marked}
use Rattle.std.proofs.Common.{◌∙◌, ap}
use Rattle.js_trivia.specs.Trivia.{comment_starts}
use Rattle.js_trivia.proofs.attaching.mark_last_pending.Goals as goal

pub returns-clause-starts : goal.returns-clause-starts
returns-clause-starts c =
    starts_put_mid c.args.processed c.args.comments.now c.mark_last_followed.new.comments c.requires
    (ap comment_starts c.mark_last_followed.ensures.marked ∙ starts_marked _)
