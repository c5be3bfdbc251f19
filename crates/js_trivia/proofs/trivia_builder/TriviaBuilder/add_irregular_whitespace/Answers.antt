use Rattle.std.proofs.Common.{◌∙◌, sym, ap, arith}
use Rattle.js_trivia.specs.Trivia.{is_past, span_starts}
use Rattle.js_trivia.proofs.Starts.{push_span_in_order}
use Rattle.js_trivia.proofs.trivia_builder.TriviaBuilder.add_irregular_whitespace.Goals as goal

pub invariant_of-self : goal.invariant_of-self
invariant_of-self c = (
  push_span_in_order c.self.inside.processed c.self.inside.comments.items c.self.inside.irregular_whitespaces.items
      c.push.new.self.items _ c.self.invariant.0
      (ap (λ spans. is_past c.args.start (span_starts spans)) (sym c.as_slice.ensures.value)
      ∙ sym c.is_past_spans.ensures ∙ c.if-is_past_spans.true)
      (omega (arith, c.requires, c.ranges.end)) c.in_ok-push.ensures.items,
  c.self.invariant.1,
  c.self.invariant.2,
)
