use Rattle.std.proofs.Common.{◌≡◌, ◌++◌, map, take}
use Rattle.js_document.proofs.blocks.held.add_moved.Given as goal

-- The items so far were added, moved.
abbrev pub invariant-loop-item : goal.invariant-loop-item
invariant-loop-item g l =
    l.items ≡ l.initial.items ++ map (g.T.Placed.shifted l.shift.from l.shift.to) (take l.item-index l.found)
