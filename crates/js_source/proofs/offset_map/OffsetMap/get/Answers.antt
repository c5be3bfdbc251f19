use Rattle.std.proofs.Common.{Some, sym, ap, subst, ◌∙◌}
use Rattle.js_source.specs.Offsets.{IsAt, AreOthers}
use Rattle.js_source.proofs.Offsets.{value_at, got_behind}
use Rattle.js_source.proofs.offset_map.OffsetMap.get.Goals as goal

-- the entry at the place of the offset is read
pub returns-in-Some-clause-some : goal.returns-in-Some-clause-some
returns-in-Some-clause-some g c =
    let is_at = subst (λ xs. IsAt xs c.args.offset c.in-Some.at) c.deref.ensures.value c.in-Some.ensures.found in
    let value = value_at c.self.inside.ordered.items c.self.invariant c.args.offset c.in-Some.at is_at in
    let read = value c.self.inside.others.entries c.index.result.now in
    rw (← c.self.view_is) (read ∙ ap (λ entry. Some entry.1) (sym c.index.ensures))

-- the offset is none of those in order
pub returns-in-None-clause-none : goal.returns-in-None-clause-none
returns-in-None-clause-none g c =
    let others = subst (λ xs. AreOthers xs c.args.offset) c.deref.ensures.value c.in-None.ensures.absent in
    let got = got_behind c.self.inside.others.entries c.args.offset c.self.inside.ordered.items others in
    rw (← c.self.view_is) ((got c.get.result c.get.ensures.value).none)

pub returns-in-None-clause-some : goal.returns-in-None-clause-some
returns-in-None-clause-some g c =
    let others = subst (λ xs. AreOthers xs c.args.offset) c.deref.ensures.value c.in-None.ensures.absent in
    let got = got_behind c.self.inside.others.entries c.args.offset c.self.inside.ordered.items others in
    rw (← c.self.view_is) ((got c.get.result c.get.ensures.value).some)
