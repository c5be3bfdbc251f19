use Rattle.std.proofs.Common.{◌≡◌, ◌≤◌, Some, length}
use Rattle.std.specs.Prelude.{slice_get}
use Rattle.js_session.specs.declared.row.Row.{Row}
use Rattle.js_document.specs.Gap.{entries_of, rows_of}
use Rattle.js_document.proofs.KeptLemmas.{Before}
use Rattle.js_document.proofs.gap.GapRows.kept.Given as goal

-- The next row is not kept.
abbrev pub invariant-loop-kept : goal.invariant-loop-kept
invariant-loop-kept g l = record {
  few : l.kept ≤ length (rows_of (entries_of l.self));
  next : (row : Row) → slice_get (rows_of (entries_of l.self)) l.kept ≡ Some row → Before l.start row → ⊥;
}

abbrev pub decreases-loop-kept : goal.decreases-loop-kept
decreases-loop-kept g l = l.kept
