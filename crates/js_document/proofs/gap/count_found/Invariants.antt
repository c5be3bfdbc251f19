use Rattle.std.proofs.Common.{◌≡◌, ◌++◌, List, take}
use Rattle.js_session.specs.declared.row.Row.{Row}
use Rattle.js_document.specs.Found.{counts_in, found_by}
use Rattle.js_document.specs.Gap.{rows_of}
use Rattle.js_document.proofs.gap.count_found.Given as goal

-- So many items there are with those of the rows so far.
abbrev pub invariant-loop-entry : goal.invariant-loop-entry
invariant-loop-entry g l =
    (front : List Row) → l.initial.counts ≡ counts_in (found_by front)
    → l.counts ≡ counts_in (found_by (front ++ rows_of (take l.entry-index l.rows)))
