use Rattle.std.proofs.Common.{◌∙◌, ap, arith, subst, sym}
use Rattle.js_document.specs.Gap.{MayPad, shifted_entry}
use Rattle.js_document.proofs.BlockLemmas.{padded_entry, padded_moves}
use Rattle.js_document.proofs.blocks.held.Held.padded.Goals as goal

pub overflow_add-to : goal.overflow_add-to
overflow_add-to g c =
    let may = subst (MayPad c.args.pad) (sym c.self.view_is) c.requires in
    let place = may.places.place in
    omega (arith, place)

pub invariant_of-result : goal.invariant_of-result
invariant_of-result g c =
    padded_moves c.self.inside.shift.from c.self.inside.shift.to c.args.pad c.self.inside.entry.now c.self.invariant
    (subst (MayPad c.args.pad) (sym c.self.view_is) c.requires)

pub returns : goal.returns
returns g c =
    padded_entry c.self.inside.shift.from c.self.inside.shift.to c.args.pad c.self.inside.entry.now c.self.invariant
    ∙ ap (shifted_entry 0 c.args.pad) c.self.view_is
