use Rattle.js_session.proofs.Unique.{row_unique}
use Rattle.js_session.proofs.laws.one_row_is_given.Goals as goal

pub returns : goal.returns
returns c = row_unique
