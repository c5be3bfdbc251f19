use Rattle.std.proofs.Common.{refl}
use Rattle.js_source.proofs.Places.{at_place, reads_ascii, placed_ascii}
use Rattle.js_source.proofs.source.Source.next_ascii.Goals as goal

pub invariant_of-self-inside : goal.invariant_of-self-inside
invariant_of-self-inside c = (
  placed_ascii (at_place _ _ c.self.inside.placed) c.args.b c.requires.ascii
      (rw (← c.self.view_is) at c.requires.next),
  tt,
)

pub returns-clause-reads : goal.returns-clause-reads
returns-clause-reads c =
    rw (← c.self.view_is) (reads_ascii (at_place _ _ c.self.inside.placed) _ c.args.b refl refl c.requires.ascii
    (rw (← c.self.view_is) at c.requires.next))
