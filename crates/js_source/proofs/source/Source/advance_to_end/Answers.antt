use Rattle.js_source.proofs.Places.{nothing_at_end}
use Rattle.js_source.proofs.source.Source.advance_to_end.Goals as goal

pub returns-clause-nothing : goal.returns-clause-nothing
returns-clause-nothing c = nothing_at_end c.self.inside.text.now
