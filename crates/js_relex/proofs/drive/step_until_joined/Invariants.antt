use Rattle.std.proofs.Common.{length, ◌≡◌, ◌≤◌, ◌+◌, ◌-◌}
use Rattle.js_relex.proofs.StepLemmas.{SteppedTo}
use Rattle.js_relex.proofs.drive.step_until_joined.Given as goal

-- So many steps were made, and no row joins the old ones.
abbrev pub invariant-loop-index : goal.invariant-loop-index
invariant-loop-index g l =
    (l.index ≤ length l.commands) × SteppedTo l.joining l.commands l.initial.session l.session l.index
    × (l.steps ≡ l.initial.steps + l.index)

abbrev pub decreases-loop-index : goal.decreases-loop-index
decreases-loop-index g l = length l.commands - l.index
