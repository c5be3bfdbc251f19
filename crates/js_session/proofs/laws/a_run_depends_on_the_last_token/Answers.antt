use Rattle.js_session.proofs.LocalRuns.{run_of_last}
use Rattle.js_session.proofs.laws.a_run_depends_on_the_last_token.Goals as goal

pub returns : goal.returns
returns c = run_of_last
