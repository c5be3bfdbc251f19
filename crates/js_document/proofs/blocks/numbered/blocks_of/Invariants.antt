use Rattle.std.proofs.Common.{◌≡◌, ◌++◌}
use Rattle.std.specs.List.{AllByRecursion}
use Rattle.std.specs.Vec.Iter.{into_iter_items}
use Rattle.js_document.specs.Blocks.{HasRows, MovesEntry, entries_in}
use Rattle.js_document.proofs.blocks.numbered.blocks_of.Given as goal

-- The entries are those of the blocks, those that are none of a block yet, and those that are left.
abbrev pub invariant-loop-entry : goal.invariant-loop-entry
invariant-loop-entry g l = record {
  entries : entries_in l.blocks.items ++ l.rows.items ++ into_iter_items l.entry-iterator ≡ l.fn.entries.items;
  some : AllByRecursion HasRows l.blocks.items;
  moves : AllByRecursion (MovesEntry 0 0) l.rows.items;
  left : AllByRecursion (MovesEntry 0 0) (into_iter_items l.entry-iterator);
}
