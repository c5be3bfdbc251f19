use Rattle.std.proofs.Common.{◌∙◌, Some, ap, sym}
use Rattle.std.specs.Option.{option_map}
use Rattle.std.specs.Prelude.{slice_get}
use Rattle.js_document.proofs.BlockLemmas.{moves_fit}
use Rattle.js_document.proofs.FoundLemmas.{all_there, item_moved}
use Rattle.js_document.proofs.blocks.held.Held.item.Goals as goal

pub moved-requires : goal.moved-requires
moved-requires g c =
    let e = c.self.inside.entry.now in
    let shift = c.self.inside.shift in
    all_there (g.L.Item.Placed.MayMove shift.from shift.to) (g.L.FoundList.items e.row) c.args.index c.in-Some.item
    (g.met.L.FoundList.moves shift.from shift.to e.row (moves_fit shift.from shift.to e c.self.invariant))
    (sym c.item_of.ensures.item ∙ c.in-Some.is)

pub returns-in-Some-clause-item : goal.returns-in-Some-clause-item
returns-in-Some-clause-item g c =
    let e = c.self.inside.entry.now in
    let shift = c.self.inside.shift in
    ap Some c.moved.ensures
    ∙ sym
    (ap (λ x. slice_get (g.L.FoundList.items x.row) c.args.index) (sym c.self.view_is)
    ∙ item_moved g.L.FoundList.items g.L.Item.Placed.shifted g.met.L.FoundList.shifted_items shift.from shift.to e.row
    c.args.index
    ∙ ap (option_map (g.L.Item.Placed.shifted shift.from shift.to)) (sym c.item_of.ensures.item ∙ c.in-Some.is))

pub returns-in-None-clause-item : goal.returns-in-None-clause-item
returns-in-None-clause-item g c =
    let e = c.self.inside.entry.now in
    let shift = c.self.inside.shift in
    sym
    (ap (λ x. slice_get (g.L.FoundList.items x.row) c.args.index) (sym c.self.view_is)
    ∙ item_moved g.L.FoundList.items g.L.Item.Placed.shifted g.met.L.FoundList.shifted_items shift.from shift.to e.row
    c.args.index
    ∙ ap (option_map (g.L.Item.Placed.shifted shift.from shift.to)) (sym c.item_of.ensures.item ∙ c.in-None.is))
