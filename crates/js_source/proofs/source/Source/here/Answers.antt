use Rattle.std.proofs.Common.{refl}
use Rattle.js_source.proofs.Places.{same_at}
use Rattle.js_source.proofs.source.Source.here.Goals as goal

pub returns : goal.returns
returns c = record { same = rw (← c.self.view_is) (same_at _ _ refl refl) }
