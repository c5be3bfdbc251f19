use Rattle.std.proofs.Common.{◌≡◌, ◌-◌, ◌≤◌, ◌++◌, drop, map, take}
use Rattle.js_document.specs.Gap.{shifted_entry}
use Rattle.js_document.proofs.blocks.RowBlocks.add_copies.Given as goal

-- The rows up to the next one were copied.
abbrev pub invariant-loop-index : goal.invariant-loop-index
invariant-loop-index g l = record {
  from : l.start ≤ l.index;
  few : l.index ≤ l.end;
  copied : l.entries.items ≡ l.initial.entries.items
      ++ map (shifted_entry l.shift.from l.shift.to) (take (l.index - l.start) (drop l.start l.self));
}

abbrev pub decreases-loop-index : goal.decreases-loop-index
decreases-loop-index g l = l.end - l.index
