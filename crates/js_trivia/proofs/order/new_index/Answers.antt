use Rattle.std.proofs.Common.{◌∙◌, sym, arith}
use Rattle.js_trivia.proofs.Starts.{count_below}
use Rattle.js_text.specs.declared.comment.Comment.{Comment}
use Rattle.js_trivia.proofs.Starts.{count_fits}
use Rattle.js_trivia.proofs.order.new_index.Goals as goal

pub overflow_cast-result : goal.overflow_cast-result
overflow_cast-result c = omega (arith, count_fits (λ (x : Comment). x.span.start) c.args.comments.now c.requires)

pub returns-then-is_past_comments-clause-bound : goal.returns-then-is_past_comments-clause-bound
returns-then-is_past_comments-clause-bound c =
    count_below c.args.start c.args.comments.now c.requires
    (sym c.is_past_comments.ensures ∙ c.if-is_past_comments.true)
