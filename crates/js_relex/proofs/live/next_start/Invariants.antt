use Rattle.std.proofs.Common.{◌-◌, ◌≤◌, length}
use Rattle.js_relex.proofs.live.next_start.Given as goal

-- The place is behind the start.
abbrev pub invariant-loop-place : goal.invariant-loop-place
invariant-loop-place l = (l.start ≤ l.place) × (l.place ≤ length l.rows)

abbrev pub decreases-loop-place : goal.decreases-loop-place
decreases-loop-place l = length l.rows - l.place
