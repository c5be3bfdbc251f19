use Rattle.std.proofs.Common.{◌≡◌, ◌-◌, ◌≤◌, ◌++◌, drop, take}
use Rattle.js_document.specs.Found.{found_in}
use Rattle.js_document.specs.Gap.{entries_of, rows_of}
use Rattle.js_document.proofs.change.found.add_found_from.Given as goal

-- What the rows up to the next one have was added.
abbrev pub invariant-loop-index : goal.invariant-loop-index
invariant-loop-index g l = record {
  from : l.start ≤ l.index;
  few : l.index ≤ l.end;
  items : l.items ≡ l.initial.items ++ found_in g.L.FoundList.items
      (rows_of (take (l.index - l.start) (drop l.start (entries_of l.entries))));
}

abbrev pub decreases-loop-index : goal.decreases-loop-index
decreases-loop-index g l = l.end - l.index
