use Rattle.js_session.proofs.WholeUnique.{whole_unique}
use Rattle.js_session.proofs.laws.one_whole_report_is_given.Goals as goal

pub returns : goal.returns
returns c = whole_unique
