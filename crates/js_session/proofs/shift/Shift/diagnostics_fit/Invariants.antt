use Rattle.std.proofs.Common.{take}
use Rattle.std.specs.List.{All}
use Rattle.js_session.specs.Shifted.{FitsShifted, OfDiagnostic}
use Rattle.js_session.proofs.shift.Shift.diagnostics_fit.Given as goal

-- Those so far fit.
abbrev pub invariant-loop-diagnostic : goal.invariant-loop-diagnostic
invariant-loop-diagnostic l =
    All (OfDiagnostic (FitsShifted l.self.from l.self.to)) (take l.diagnostic-index l.diagnostics)
