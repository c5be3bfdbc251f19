use Rattle.std.proofs.Common.{◌≤◌}
use Rattle.js_document.proofs.change.left_from_reading.Given as goal

-- No more are left than there were.
abbrev pub invariant-loop-reading : goal.invariant-loop-reading
invariant-loop-reading g l = l.reading ≤ l.left

abbrev pub decreases-loop-reading : goal.decreases-loop-reading
decreases-loop-reading g l = l.reading
