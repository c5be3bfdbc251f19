use Rattle.js_session.proofs.ShiftedRows.{run_taken_over}
use Rattle.js_session.proofs.laws.a_run_is_taken_over.Goals as goal

pub returns : goal.returns
returns c = run_taken_over
