use Rattle.std.proofs.Common.{arith, refl, subst}
use Rattle.std.proofs.lemmas.List.{take_all}
use Rattle.std.proofs.lemmas.List.Elements.{All-more}
use Rattle.std.specs.List.{All}
use Rattle.js_session.specs.Shifted.{FitsShifted, OfDiagnostic}
use Rattle.js_session.proofs.shift.Shift.diagnostics_fit.Goals as goal

pub loop-diagnostic-preserved : goal.loop-diagnostic-preserved
loop-diagnostic-preserved c =
    All-more (OfDiagnostic (FitsShifted c.args.self.now.from c.args.self.now.to)) c.args.diagnostics.now c.loop-diagnostic.diagnostic-index _
    (omega (arith, c.loop-diagnostic-test.true)) c.loop-diagnostic.invariant
    (c.diagnostic_fits.ensures.0 (let yes = c.if-not-diagnostic_fits.false in cc))

pub returns : goal.returns
returns c = (
  λ _.
      subst (All (OfDiagnostic (FitsShifted c.args.self.now.from c.args.self.now.to)))
      (take_all c.loop-diagnostic.diagnostic-index c.args.diagnostics.now (omega (arith, c.loop-diagnostic-test.false)))
      c.loop-diagnostic.invariant,
  λ _. refl,
)
