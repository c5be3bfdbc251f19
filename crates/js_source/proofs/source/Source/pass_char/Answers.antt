use Rattle.std.proofs.Common.{arith, refl}
use Rattle.js_source.proofs.Places.{at_place, char_at_next, reads_next, placed_next, place_fits, steps_past}
use Rattle.js_source.proofs.source.Source.pass_char.Goals as goal

pub overflow_add-self : goal.overflow_add-self
overflow_add-self c =
    let next = placed_next (at_place _ _ c.self.inside.placed) c.args.c (rw (← c.self.view_is) at c.requires) in
    rw c.len_utf8.ensures.value (omega (arith, place_fits _ _ next))

pub invariant_of-self-inside : goal.invariant_of-self-inside
invariant_of-self-inside c = (
  rw c.len_utf8.ensures.value
      (placed_next (at_place _ _ c.self.inside.placed) c.args.c (rw (← c.self.view_is) at c.requires)),
  tt,
)

pub returns-clause-reads : goal.returns-clause-reads
returns-clause-reads c =
    rw (← c.self.view_is)
    (reads_next (at_place _ _ c.self.inside.placed) _ c.args.c refl (rw c.len_utf8.ensures.value refl)
    (rw (← c.self.view_is) at c.requires))

pub returns-clause-at : goal.returns-clause-at
returns-clause-at c =
    rw (c.len_utf8.ensures.value, ← c.self.view_is)
    (char_at_next (at_place _ _ c.self.inside.placed) c.args.c (rw (← c.self.view_is) at c.requires))

pub returns-clause-past : goal.returns-clause-past
returns-clause-past c = steps_past _ _ c.args.c (returns-clause-reads c)
