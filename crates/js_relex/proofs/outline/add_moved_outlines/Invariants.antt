use Rattle.std.proofs.Common.{◌≡◌, ◌++◌, map, take}
use Rattle.js_relex.specs.Outlines.{shifted_outline}
use Rattle.js_relex.proofs.outline.add_moved_outlines.Given as goal

-- The outlines before were added, moved.
abbrev pub invariant-loop-outline : goal.invariant-loop-outline
invariant-loop-outline l =
    l.list ≡ l.initial.list ++ map (shifted_outline l.shift.from l.shift.to) (take l.outline-index l.outlines)
