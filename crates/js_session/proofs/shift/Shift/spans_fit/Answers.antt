use Rattle.std.proofs.Common.{arith, refl, subst}
use Rattle.std.proofs.lemmas.List.{take_all}
use Rattle.std.proofs.lemmas.List.Elements.{All-more}
use Rattle.std.specs.List.{All}
use Rattle.js_session.specs.Shifted.{FitsShifted, OfSpan}
use Rattle.js_session.proofs.shift.Shift.spans_fit.Goals as goal

pub loop-span-preserved : goal.loop-span-preserved
loop-span-preserved c =
    All-more (OfSpan (FitsShifted c.args.self.now.from c.args.self.now.to)) c.args.spans.now c.loop-span.span-index _
    (omega (arith, c.loop-span-test.true)) c.loop-span.invariant
    (c.span_fits.ensures.0 (let yes = c.if-not-span_fits.false in cc))

pub returns : goal.returns
returns c = (
  λ _.
      subst (All (OfSpan (FitsShifted c.args.self.now.from c.args.self.now.to)))
      (take_all c.loop-span.span-index c.args.spans.now (omega (arith, c.loop-span-test.false)))
      c.loop-span.invariant,
  λ _. refl,
)
