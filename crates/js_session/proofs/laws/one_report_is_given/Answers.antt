use Rattle.js_session.proofs.Unique.{report_unique}
use Rattle.js_session.proofs.laws.one_report_is_given.Goals as goal

pub returns : goal.returns
returns c = report_unique
