use Rattle.js_session.proofs.MovedRuns.{run_back, run_forward}
use Rattle.js_session.proofs.laws.a_run_moves_with_its_text.Goals as goal

pub returns-clause-forward : goal.returns-clause-forward
returns-clause-forward c = run_forward

pub returns-clause-back : goal.returns-clause-back
returns-clause-back c = run_back
