use Rattle.std.proofs.Common.{◌≡◌, ◌≤◌, take}
use Rattle.js_relex.specs.LiveLists.{row_readings}
use Rattle.js_relex.proofs.live.count_row_readings.Given as goal

-- So many of those before read.
abbrev pub invariant-loop-row : goal.invariant-loop-row
invariant-loop-row l = (l.count ≡ row_readings (take l.row-index l.rows)) × (l.count ≤ l.row-index)
