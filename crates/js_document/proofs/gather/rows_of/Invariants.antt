use Rattle.std.proofs.Common.{◌≡◌, ◌-◌, ◌≤◌, length, take}
use Rattle.js_document.specs.Gap.{entries_of, rows_of}
use Rattle.js_document.proofs.gather.rows_of.Given as goal

-- The rows up to the next one were copied.
abbrev pub invariant-loop-index : goal.invariant-loop-index
invariant-loop-index g l = record {
  few : l.index ≤ length (entries_of l.entries);
  rows : l.rows ≡ rows_of (take l.index (entries_of l.entries));
}

abbrev pub decreases-loop-index : goal.decreases-loop-index
decreases-loop-index g l = length (entries_of l.entries) - l.index
