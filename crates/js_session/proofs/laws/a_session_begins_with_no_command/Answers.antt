use Rattle.js_session.proofs.RunsOn.{run_begins}
use Rattle.js_session.proofs.laws.a_session_begins_with_no_command.Goals as goal

pub returns : goal.returns
returns c = run_begins
