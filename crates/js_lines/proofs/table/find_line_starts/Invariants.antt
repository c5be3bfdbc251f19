use Rattle.std.proofs.Common.{◌≡◌, ◌++◌, length}
use Rattle.js_source.specs.Source.{rest}
use Rattle.js_lines.specs.Lines.{line_starts, starts_from}
use Rattle.js_lines.proofs.table.find_line_starts.Given as goal

-- The starts so far, and those behind the line ends that are left, are all.
abbrev pub invariant-loop-start : goal.invariant-loop-start
invariant-loop-start l = l.starts.items ++ starts_from l.ends l.source ≡ line_starts l.ends l.fn.text

abbrev pub decreases-loop-start : goal.decreases-loop-start
decreases-loop-start l = length (rest l.source)
