use Rattle.js_session.proofs.ShiftedRows.{run_lies_behind}
use Rattle.js_session.proofs.laws.a_run_lies_behind_its_front.Goals as goal

pub returns : goal.returns
returns c = run_lies_behind
