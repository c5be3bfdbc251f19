use Rattle.std.proofs.Common.{ap, sym, subst, arith}
use Rattle.std.specs.Option.{option_flatten}
use Rattle.std.specs.Prelude.{length, option_to_list, IsSome, ◌↔◌, ◌<◌}
use Rattle.js_session.proofs.PlaceLemmas.{Pops, pops}
use Rattle.js_session.proofs.mark_list.MarkList.pop.Goals as goal

popped : (c : goal.After-flatten) → Pops c.self.inside.places.items c.pop-place.new.self.items c.pop-place.result
popped c =
    pops c.self.inside.places.items c.pop-place.new.self.items c.pop-place.result c.self.invariant
    c.pop-place.ensures.items c.pop-place.ensures.found

pub invariant_of-self : goal.invariant_of-self
invariant_of-self c = (popped c).hold

pub returns-clause-found : goal.returns-clause-found
returns-clause-found c =
    subst (λ r. IsSome r ↔ (0 < length c.args.self.now.items)) (sym c.flatten.ensures)
    (subst (λ l. IsSome (option_flatten c.pop-place.result) ↔ (0 < length l.items)) c.self.view_is (popped c).found)

pub returns-clause-free : goal.returns-clause-free
returns-clause-free c =
    omega (
      arith,
      c.pop-place.ensures.free,
      (popped c).frees,
      ap (λ l. l.free) c.self.view_is,
      ap (λ r. length (option_to_list r)) c.flatten.ensures,
    )
