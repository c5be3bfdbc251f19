use Rattle.js_session.proofs.LocalRows.{row_local}
use Rattle.js_session.proofs.laws.a_row_is_local.Goals as goal

pub returns : goal.returns
returns c = row_local
