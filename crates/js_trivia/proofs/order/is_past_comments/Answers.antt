use Rattle.js_text.specs.declared.comment.Comment.{Comment}
use Rattle.js_trivia.proofs.Last.{is_past_at}
use Rattle.js_trivia.proofs.order.is_past_comments.Goals as goal

pub returns-in-len1-up : goal.returns-in-len1-up
returns-in-len1-up c =
    is_past_at (λ (x : Comment). x.span.start) c.args.start c.args.comments.now _ c.in-len1-up.len_at_least
