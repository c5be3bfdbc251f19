use Rattle.std.proofs.Common.{◌≡◌, ◌+◌, length}
use Rattle.std.specs.Str.{chars}
use Rattle.js_source.specs.Source.{rest}
use Rattle.js_lines.specs.Columns.{length_in, front_within}
use Rattle.js_lines.specs.declared.columns.ColumnUnit.TheVariants.{Bytes}
use Rattle.js_lines.proofs.columns.ColumnUnit.bytes_up_to.Given as goal

-- The bytes so far and those of the front that is left are those of the whole front.
abbrev pub invariant-loop-c : goal.invariant-loop-c
invariant-loop-c l =
    l.source.place + length_in Bytes (front_within l.self l.left (rest l.source))
    ≡ length_in Bytes (front_within l.self l.column (chars l.fn.text))

abbrev pub decreases-loop-c : goal.decreases-loop-c
decreases-loop-c l = length (rest l.source)
