use Rattle.std.proofs.Common.{[]}
use Rattle.js_session.specs.Session.{state_behind}
use Rattle.js_session.proofs.RunsOn.{run_on}
use Rattle.js_session.proofs.laws.each_call_from_there_is_one_command_more.Goals as goal

pub returns : goal.returns
returns c =
    λ text t collects token commands command old new h has f.
    run_on text t collects (state_behind token) [] commands command old new h has f
