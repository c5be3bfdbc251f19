use Rattle.std.proofs.Common.{◌≡◌, ◌++◌, map, take, drop}
use Rattle.js_session.specs.Shifted.{shifted_span}
use Rattle.js_session.proofs.shift.Shift.move_each_span.Given as goal

-- So many were moved; those behind them are as they were.
abbrev pub invariant-loop-span : goal.invariant-loop-span
invariant-loop-span l =
    l.spans ≡ map (shifted_span l.self.from l.self.to) (take l.span-index l.initial.spans)
    ++ drop l.span-index l.initial.spans
