use Rattle.std.proofs.Common.{◌∙◌}
use Rattle.js_source.proofs.Places.{between}
use Rattle.js_source.proofs.source.Source.str_between.Goals as goal

pub returns-clause-characters : goal.returns-clause-characters
returns-clause-characters c =
    rw (← c.self.view_is, ← c.from.view_is, ← c.to.view_is) (
    λ xs e. c.range.ensures.value
    ∙ between _ _ _ c.self.inside.placed.utf8 (rw (← c.from.view_is, ← c.to.view_is) at c.requires.ordered)
    (rw (← c.self.view_is, ← c.from.view_is) at c.requires.from_boundary)
    (rw (← c.self.view_is, ← c.to.view_is) at c.requires.to_boundary) xs e
    )
