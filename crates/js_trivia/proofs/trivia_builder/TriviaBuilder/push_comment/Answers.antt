use Rattle.std.proofs.Common.{arith}
use Rattle.js_trivia.proofs.Ranges.{ranges_pushed}
use Rattle.js_trivia.proofs.Starts.{push_in_order}
use Rattle.js_trivia.proofs.trivia_builder.TriviaBuilder.push_comment.Goals as goal

pub invariant_of-self-then-trails : goal.invariant_of-self-then-trails
invariant_of-self-then-trails c = (
  push_in_order c.self.inside.processed c.self.inside.comments.items c.push.new.self.items _ _ c.self.invariant.0
      (rw (← c.self.view_is) at c.requires.new) (omega (arith, c.requires.span, c.ranges.end))
      c.in_ok-push.ensures.items,
  λ h. absurd cc,
  ranges_pushed c.self.inside.comments.items c.push.new.self.items _ c.self.inside.pure_comments
      c.self.inside.no_side_effects_comments c.in_ok-push.ensures.items c.self.invariant.2,
)

pub invariant_of-self-else-trails : goal.invariant_of-self-else-trails
invariant_of-self-else-trails c = (
  push_in_order c.self.inside.processed c.self.inside.comments.items c.push.new.self.items _ _ c.self.invariant.0
      (rw (← c.self.view_is) at c.requires.new) (omega (arith, c.requires.span, c.ranges.end))
      c.in_ok-push.ensures.items,
  λ h. absurd cc,
  ranges_pushed c.self.inside.comments.items c.push.new.self.items _ c.self.inside.pure_comments
      c.self.inside.no_side_effects_comments c.in_ok-push.ensures.items c.self.invariant.2,
)
