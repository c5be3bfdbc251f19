use Rattle.std.proofs.Common.{◌≡◌, ◌≤◌, length}
use Rattle.js_source.specs.Source.{rest}
use Rattle.js_lines.specs.Lines.{starts_from}
use Rattle.js_lines.proofs.table.pass_line_end.Given as goal

-- No line has ended yet.
abbrev pub invariant-loop-c : goal.invariant-loop-c
invariant-loop-c l =
    (l.source.text ≡ l.fn.source.text) × (starts_from l.ends l.source ≡ starts_from l.ends l.fn.source)
    × (length (rest l.source) ≤ length (rest l.fn.source))

abbrev pub decreases-loop-c : goal.decreases-loop-c
decreases-loop-c l = length (rest l.source)
