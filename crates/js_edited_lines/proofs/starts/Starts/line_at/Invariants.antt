use Rattle.std.proofs.Common.{◌-◌}
use Rattle.js_edited_lines.specs.Starts.{all_starts, IsAmong}
use Rattle.js_edited_lines.proofs.starts.Starts.line_at.Given as goal

abbrev pub invariant-loop-end : goal.invariant-loop-end
invariant-loop-end l = IsAmong (all_starts l.self) l.place l.line l.end

abbrev pub decreases-loop-end : goal.decreases-loop-end
decreases-loop-end l = l.end - l.line
