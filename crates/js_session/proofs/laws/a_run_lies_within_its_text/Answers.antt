use Rattle.js_session.proofs.RowsWithin.{run_within}
use Rattle.js_session.proofs.laws.a_run_lies_within_its_text.Goals as goal

pub returns : goal.returns
returns c = run_within
