use Rattle.js_trivia.proofs.Ranges.{ranges_cut}
use Rattle.js_trivia.proofs.Starts.{cut_in_order}
use Rattle.js_trivia.proofs.trivia_builder.TriviaBuilder.cut_back.Goals as goal

pub invariant_of-self : goal.invariant_of-self
invariant_of-self c =
    rw (c.truncate.ensures.items, c.truncate-2.ensures.items) (
      cut_in_order c.args.to.comments c.args.to.irregular c.self.inside.processed c.self.inside.comments.items
          _ c.self.invariant.0 (rw (← c.self.view_is) at c.requires.comments),
      λ h. absurd cc,
      ranges_cut c.args.to.comments c.self.inside.processed c.self.inside.comments.items c.args.to.pure_range
          c.args.to.no_side_effects (rw (← c.self.view_is) at c.requires.comments) c.requires.ranges,
    )
