use Rattle.js_session.proofs.RunsOn.{run_reports}
use Rattle.js_session.proofs.laws.a_session_reports_its_commands.Goals as goal

pub returns : goal.returns
returns c = run_reports
