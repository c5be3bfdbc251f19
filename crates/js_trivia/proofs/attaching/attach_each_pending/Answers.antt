use Rattle.js_trivia.proofs.Starts.{starts_put_mid, starts_attached_alone}
use Rattle.std.proofs.Common.{◌∙◌, ap}
use Rattle.js_trivia.specs.Trivia.{comment_starts}
use Rattle.js_trivia.proofs.attaching.attach_each_pending.Goals as goal

pub returns-clause-starts : goal.returns-clause-starts
returns-clause-starts c =
    starts_put_mid c.args.processed c.args.comments.now c.attach_each.new.comments c.requires
    (ap comment_starts c.attach_each.ensures ∙ starts_attached_alone c.args.previous.now c.args.token _)
