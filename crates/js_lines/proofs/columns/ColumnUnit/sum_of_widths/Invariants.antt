use Rattle.std.proofs.Common.{◌≡◌, ◌+◌, length}
use Rattle.std.specs.Str.{chars}
use Rattle.js_source.specs.Source.{rest}
use Rattle.js_lines.specs.Columns.{length_in}
use Rattle.js_lines.proofs.columns.ColumnUnit.sum_of_widths.Given as goal

-- The length so far and that of what is left are that of the text.
abbrev pub invariant-loop-c : goal.invariant-loop-c
invariant-loop-c l = l.length + length_in l.self (rest l.source) ≡ length_in l.self (chars l.fn.text)

abbrev pub decreases-loop-c : goal.decreases-loop-c
decreases-loop-c l = length (rest l.source)
