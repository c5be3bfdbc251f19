use Rattle.std.proofs.Common.{◌≡◌, ◌≤◌, drop, map, take}
use Rattle.std.specs.Prelude.{reverse}
use Rattle.js_session.specs.Shifted.{shifted_row}
use Rattle.js_document.specs.Gap.{rows_of}
use Rattle.js_document.specs.Reading.{with_rows}
use Rattle.js_document.proofs.change.add_rows.Given as goal

-- The tokens of the rows from an index on were made live, the last one first.
abbrev pub invariant-loop-left : goal.invariant-loop-left
invariant-loop-left g l = record {
  from : l.low ≤ l.left;
  few : l.left ≤ l.high;
  tokens : l.tokens ≡ with_rows l.initial.tokens
      (map (shifted_row l.shift.from l.shift.to) (reverse (rows_of (drop l.left (take l.high l.entries.back)))));
}

abbrev pub decreases-loop-left : goal.decreases-loop-left
decreases-loop-left g l = l.left
