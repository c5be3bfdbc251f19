use Rattle.std.proofs.Common.{take}
use Rattle.std.specs.List.{All}
use Rattle.js_session.specs.Shifted.{FitsShifted, OfSpan}
use Rattle.js_session.proofs.shift.Shift.spans_fit.Given as goal

-- Those so far fit.
abbrev pub invariant-loop-span : goal.invariant-loop-span
invariant-loop-span l = All (OfSpan (FitsShifted l.self.from l.self.to)) (take l.span-index l.spans)
