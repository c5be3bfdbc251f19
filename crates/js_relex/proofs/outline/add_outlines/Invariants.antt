use Rattle.std.proofs.Common.{◌≡◌, ◌++◌, map, take}
use Rattle.js_relex.specs.Outlines.{outline_of}
use Rattle.js_relex.proofs.outline.add_outlines.Given as goal

-- The outlines of the rows before were added.
abbrev pub invariant-loop-row : goal.invariant-loop-row
invariant-loop-row l = l.list ≡ l.initial.list ++ map outline_of (take l.row-index l.rows)
