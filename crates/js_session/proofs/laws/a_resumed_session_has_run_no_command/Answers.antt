use Rattle.js_session.proofs.RunsOn.{run_resumed}
use Rattle.js_session.proofs.laws.a_resumed_session_has_run_no_command.Goals as goal

pub returns : goal.returns
returns c = run_resumed
