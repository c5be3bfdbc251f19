use Rattle.std.proofs.Common.{sym, ◌∙◌}
use Rattle.js_source.proofs.Places.{at_place, rest_bytes}
use Rattle.js_source.proofs.source.Source.remaining.Goals as goal

pub returns-clause-characters : goal.returns-clause-characters
returns-clause-characters c =
    rw (← c.self.view_is) (c.range_from.ensures.value ∙ sym (rest_bytes (at_place _ _ c.self.inside.placed)))
