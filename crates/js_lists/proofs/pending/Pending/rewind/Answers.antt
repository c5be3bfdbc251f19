use Rattle.std.proofs.Common.{ap}
use Rattle.js_lists.specs.declared.pending.Pending.{Pending}
use Rattle.js_lists.proofs.pending.Pending.rewind.Goals as goal

pub rewind-requires : goal.rewind-requires
rewind-requires g c = c.requires.may c.pop.new.self c.in-Some.mark c.in-Some.ensures.items

pub returns-in-Some : goal.returns-in-Some
returns-in-Some g c = record {
  mark = c.in-Some.mark;
  marks = c.in-Some.ensures.items;
  lexer = c.rewind.ensures.restores;
  decoded = ap (λ l. l.decoded) c.rewind.ensures.state;
  after =
      ap {B = Pending} (λ w. record { last = c.in-Some.mark.last; waiting = w; marks = c.pop.new.self })
      c.truncate.ensures;
}
