use Rattle.std.proofs.Common.{arith}
use Rattle.js_text.specs.declared.comment.Comment.{Comment}
use Rattle.js_text.specs.declared.span.Span.{Span}
use Rattle.js_trivia.proofs.Ranges.{ranges_attached}
use Rattle.js_trivia.proofs.Starts.{count_fits}
use Rattle.js_trivia.proofs.trivia_builder.TriviaBuilder.lengths.Goals as goal

pub overflow_cast-result : goal.overflow_cast-result
overflow_cast-result c =
    omega (
      arith,
      c.self.invariant.0.within,
      count_fits (λ (x : Comment). x.span.start) c.self.inside.comments.items
          c.self.invariant.0.comments_ascend,
    )

pub overflow_cast-result-2 : goal.overflow_cast-result-2
overflow_cast-result-2 c =
    omega (
      arith,
      c.len.ensures,
      count_fits (λ (x : Span). x.start) c.self.inside.irregular_whitespaces.items
          c.self.invariant.0.spans_ascend,
    )

pub returns-clause-ranges : goal.returns-clause-ranges
returns-clause-ranges c =
    ranges_attached c.self.inside.processed c.self.inside.comments.items c.self.inside.pure_comments
    c.self.inside.no_side_effects_comments c.self.invariant.0.within (rw (← c.self.view_is) at c.requires)
    c.self.invariant.2
