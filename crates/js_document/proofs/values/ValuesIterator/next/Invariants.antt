use Rattle.std.proofs.Common.{◌≡◌, ◌-◌, drop, length}
use Rattle.js_document.specs.Gap.{entries_of, rows_of}
use Rattle.js_document.specs.Values.{values_in}
use Rattle.js_document.proofs.values.ValuesIterator.next.Given as goal

-- The same values are left.
abbrev pub invariant-loop-self : goal.invariant-loop-self
invariant-loop-self g l =
    values_in (drop l.self-inside.row (rows_of (entries_of l.self-inside.entries.now))) ≡ l.fn.self

abbrev pub decreases-loop-self : goal.decreases-loop-self
decreases-loop-self g l = length (entries_of l.self-inside.entries.now) - l.self-inside.row
