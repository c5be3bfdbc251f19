use Rattle.std.proofs.Common.{◌∙◌, ap, arith, length, refl, sym}
use Rattle.std.proofs.lemmas.List.{take_all}
use Rattle.std.proofs.lemmas.Option.{slice_get_read}
use Rattle.js_document.specs.Blocks.{entries_in}
use Rattle.js_document.proofs.BlockLemmas.{before_is}
use Rattle.js_document.proofs.blocks.numbered.rows_before.Goals as goal

pub returns-in-Some : goal.returns-in-Some
returns-in-Some g c =
    let blocks = c.args.blocks.now in
    let b = c.in-Some.block.now in
    c.rows_before.ensures
    ∙ before_is blocks c.requires.numbered c.args.number b
    (slice_get_read blocks (length blocks) c.args.number b refl c.in-Some.ensures.lookup.3.0 c.in-Some.ensures.lookup.1)

pub returns-in-None : goal.returns-in-None
returns-in-None g c =
    let past = c.in-None.ensures.lookup.3 in
    c.requires.all
    ∙ sym (ap (λ bs. length (entries_in bs)) (take_all c.args.number c.args.blocks.now (omega (arith, past))))
