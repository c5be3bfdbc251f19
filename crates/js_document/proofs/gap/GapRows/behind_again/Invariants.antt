use Rattle.std.proofs.Common.{◌-◌, ◌<◌, ◌≤◌, length}
use Rattle.js_document.specs.Gap.{entries_of, rows_of}
use Rattle.js_document.proofs.RowPlaces.{TakenUpTo}
use Rattle.js_document.proofs.gap.GapRows.behind_again.Given as goal

-- All rows up to the next one read a token again.
abbrev pub invariant-loop-next : goal.invariant-loop-next
invariant-loop-next g l = record {
  above : l.index < l.next;
  few : l.next ≤ length (entries_of l.self);
  taken : TakenUpTo (rows_of (entries_of l.self)) l.index l.next;
}

abbrev pub decreases-loop-next : goal.decreases-loop-next
decreases-loop-next g l = length (entries_of l.self) - l.next
