use Rattle.std.proofs.Common.{◌≤◌}
use Rattle.js_relex.proofs.live.last_start.Given as goal

-- The place is not behind the end.
abbrev pub invariant-loop-place : goal.invariant-loop-place
invariant-loop-place l = l.place ≤ l.end

abbrev pub decreases-loop-place : goal.decreases-loop-place
decreases-loop-place l = l.place
