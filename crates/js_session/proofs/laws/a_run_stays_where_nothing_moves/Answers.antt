use Rattle.js_session.proofs.ShiftedRows.{run_stays}
use Rattle.js_session.proofs.laws.a_run_stays_where_nothing_moves.Goals as goal

pub returns : goal.returns
returns c = run_stays
