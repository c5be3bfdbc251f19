use Rattle.js_session.proofs.LocalRuns.{run_local}
use Rattle.js_session.proofs.laws.a_run_is_local.Goals as goal

pub returns : goal.returns
returns c = run_local
