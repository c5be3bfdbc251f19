use Rattle.std.proofs.Common.{◌≡◌, ℕ, ◌+◌, Bool, List, [], take}
use Rattle.js_text.specs.declared.source_type.SourceType.{SourceType}
use Rattle.js_session.specs.declared.row.Row.{Row}
use Rattle.js_session.specs.Live.{State}
use Rattle.js_session.specs.Session.{RunsFrom}
use Rattle.js_relex.proofs.drive.step_each.Given as goal

-- So many steps were made and counted.
abbrev pub invariant-loop-command : goal.invariant-loop-command
invariant-loop-command g l =
    ((text : List ℕ) (t : SourceType) (collects : Bool) (start : State) (before : List Row)
    → RunsFrom text t collects start before [] l.initial.session
    → RunsFrom text t collects start before (take l.command-index l.commands) l.session)
    × (l.steps ≡ l.initial.steps + l.command-index)
