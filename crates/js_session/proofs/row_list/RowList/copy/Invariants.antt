use Rattle.std.proofs.Common.{◌≡◌, take}
use Rattle.js_session.proofs.row_list.RowList.copy.Given as goal

-- The rows so far were copied.
abbrev pub invariant-loop-row : goal.invariant-loop-row
invariant-loop-row l = l.copied ≡ take l.row-index l.row-items
