use Rattle.js_text.specs.declared.span.Span.{Span}
use Rattle.js_trivia.proofs.Last.{is_past_at}
use Rattle.js_trivia.proofs.order.is_past_spans.Goals as goal

pub returns-in-len1-up : goal.returns-in-len1-up
returns-in-len1-up c = is_past_at (λ (x : Span). x.start) c.args.start c.args.spans.now _ c.in-len1-up.len_at_least
