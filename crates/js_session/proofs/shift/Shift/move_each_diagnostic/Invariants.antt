use Rattle.std.proofs.Common.{◌≡◌, ◌++◌, map, take, drop}
use Rattle.js_session.specs.Shifted.{shifted_diagnostic}
use Rattle.js_session.proofs.shift.Shift.move_each_diagnostic.Given as goal

-- So many were moved; those behind them are as they were.
abbrev pub invariant-loop-diagnostic : goal.invariant-loop-diagnostic
invariant-loop-diagnostic l =
    l.diagnostics ≡ map (shifted_diagnostic l.self.from l.self.to) (take l.diagnostic-index l.initial.diagnostics)
    ++ drop l.diagnostic-index l.initial.diagnostics
