use Rattle.js_session.proofs.RunsOn.{run_follows}
use Rattle.js_session.proofs.laws.each_call_is_one_command_more.Goals as goal

pub returns : goal.returns
returns c = run_follows
