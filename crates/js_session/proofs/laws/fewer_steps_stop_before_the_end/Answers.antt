use Rattle.js_session.proofs.WholeUnique.{fewer_steps}
use Rattle.js_session.proofs.laws.fewer_steps_stop_before_the_end.Goals as goal

pub returns : goal.returns
returns c = fewer_steps
