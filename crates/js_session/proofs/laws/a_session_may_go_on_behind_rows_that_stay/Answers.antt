use Rattle.js_session.specs.Live.{state_after_first}
use Rattle.js_session.proofs.LastingRuns.{behind_first, behind_rows}
use Rattle.js_session.proofs.laws.a_session_may_go_on_behind_rows_that_stay.Goals as goal

pub returns : goal.returns
returns c = λ text t commands first rows lasting are.
    (behind_rows text t (state_after_first first) commands rows first.token lasting (behind_first text t first are.0)
    are.1).may
