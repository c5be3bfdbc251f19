use Rattle.js_session.proofs.PlaceLemmas.{places_stay}
use Rattle.js_session.proofs.laws.no_command_loses_a_place.Goals as goal

pub returns : goal.returns
returns c = places_stay
