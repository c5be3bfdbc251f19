use Rattle.std.proofs.Common.{◌≡◌, ◌++◌, length, take}
use Rattle.std.specs.Vec.Iter.{into_iter_items}
use Rattle.js_document.specs.Gap.{rows_of}
use Rattle.js_document.specs.Reading.{states_of}
use Rattle.js_document.proofs.read.entries_of.Given as goal

-- The entries so far have the rows so far, and their states.
abbrev pub invariant-loop-row : goal.invariant-loop-row
invariant-loop-row g l = record {
  rows : rows_of l.entries.items ++ into_iter_items l.row-iterator ≡ l.fn.rows;
  states : states_of l.entries.items ≡ take l.index l.states;
  count : l.index ≡ length l.entries.items;
}
