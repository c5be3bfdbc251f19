use Rattle.std.proofs.Common.{◌++◌, ◌∙◌, ap, map, subst, sym}
use Rattle.std.proofs.lemmas.List.Elements.{recursion_from_All}
use Rattle.std.proofs.lemmas.Result.{on_ok_weaker}
use Rattle.std.specs.List.{AllByRecursion}
use Rattle.js_document.proofs.BlockLemmas.{moves_fit}
use Rattle.js_document.proofs.blocks.held.Held.add_to.Goals as goal

pub add_moved-requires : goal.add_moved-requires
add_moved-requires g c =
    let e = c.self.inside.entry.now in
    let shift = c.self.inside.shift in
    subst (AllByRecursion (g.L.Item.Placed.MayMove shift.from shift.to)) (sym c.list.ensures)
    (recursion_from_All (g.L.Item.Placed.MayMove shift.from shift.to) (g.L.FoundList.items e.row)
    (g.met.L.FoundList.moves shift.from shift.to e.row (moves_fit shift.from shift.to e c.self.invariant)))

pub returns : goal.returns
returns g c =
    let e = c.self.inside.entry.now in
    let shift = c.self.inside.shift in
    on_ok_weaker c.add_moved.result
    (λ added.
    added ∙ ap (λ l. c.args.items.now ++ map (g.L.Item.Placed.shifted shift.from shift.to) l) c.list.ensures
    ∙ ap (λ l. c.args.items.now ++ l) (sym (g.met.L.FoundList.shifted_items shift.from shift.to e.row))
    ∙ ap (λ x. c.args.items.now ++ g.L.FoundList.items x.row) c.self.view_is)
    c.add_moved.ensures
