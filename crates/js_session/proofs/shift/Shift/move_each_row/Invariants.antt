use Rattle.std.proofs.Common.{◌≡◌, ◌++◌, map, take, drop}
use Rattle.js_session.specs.Shifted.{shifted_row}
use Rattle.js_session.proofs.shift.Shift.move_each_row.Given as goal

-- So many were moved; those behind them are as they were.
abbrev pub invariant-loop-row : goal.invariant-loop-row
invariant-loop-row l =
    l.rows ≡ map (shifted_row l.self.from l.self.to) (take l.row-index l.initial.rows)
    ++ drop l.row-index l.initial.rows
