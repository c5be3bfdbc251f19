use Rattle.std.proofs.Common.{◌<◌, arith, refl}
use Rattle.js_source.proofs.Places.{at_place, reads_ascii, placed_ascii}
use Rattle.js_source.proofs.source.Source.advance_if_ascii_eq.Goals as goal

pub invariant_of-self-inside : goal.invariant_of-self-inside
invariant_of-self-inside c =
    let ascii : c.in-Some.next < 128 = omega arith in (
      placed_ascii (at_place _ _ c.self.inside.placed) c.in-Some.next ascii
          (rw (← c.self.view_is) at c.in-Some.ensures.some),
      tt,
    )

pub returns-in-Some-clause-cases : goal.returns-in-Some-clause-cases
returns-in-Some-clause-cases c =
    let ascii : c.in-Some.next < 128 = omega arith in
    rw (← c.if-next-b.true, ← c.self.view_is)
    (reads_ascii (at_place _ _ c.self.inside.placed) _ c.in-Some.next refl refl ascii
    (rw (← c.self.view_is) at c.in-Some.ensures.some))
