use Rattle.std.proofs.Common.{◌++◌, ◌∷◌, [], ◌∙◌, ap, arith, length, refl}
use Rattle.std.proofs.lemmas.Option.{slice_get_read}
use Rattle.js_document.proofs.ChangedFound.{moved_more}
use Rattle.js_document.proofs.ListLemmas.{each_there}
use Rattle.js_document.proofs.blocks.held.add_moved.Goals as goal

pub moved-requires : goal.moved-requires
moved-requires g c =
    let found = c.args.found.now in
    let index = c.loop-item.item-index in
    each_there (g.T.Placed.MayMove c.args.shift.now.from c.args.shift.now.to) found index c.item-item.result c.requires
    (slice_get_read found (length found) index c.item-item.result refl (omega (arith, c.loop-item-test.true)) c.item-item.is)

pub loop-item-preserved : goal.loop-item-preserved
loop-item-preserved g c =
    moved_more (g.T.Placed.shifted c.args.shift.now.from c.args.shift.now.to) c.args.found.now c.loop-item.item-index
    c.item-item.result c.args.items.now c.loop-item.items c.push.new.self (omega (arith, c.loop-item-test.true))
    c.item-item.is c.loop-item.invariant
    (c.in_ok-push.ensures.ok ∙ ap (λ x. c.loop-item.items ++ x ∷ []) c.moved.ensures)
