use Rattle.js_cursor.proofs.GoesOn.{goes_on-refl, goes_on-trans}
use Rattle.js_cursor.proofs.laws.going_on_composes.Goals as goal

pub returns : goal.returns
returns c = record { stays = goes_on-refl; goes = goes_on-trans }
