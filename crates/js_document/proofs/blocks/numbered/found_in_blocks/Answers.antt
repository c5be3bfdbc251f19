use Rattle.std.proofs.Common.{◌++◌, ◌∷◌, [], ◌∙◌, ap, append-nil, arith, sym, take}
use Rattle.std.proofs.lemmas.List.{take_more}
use Rattle.js_document.specs.Blocks.{entries_in}
use Rattle.js_document.specs.Found.{counts_in, found_by}
use Rattle.js_document.specs.Gap.{rows_of}
use Rattle.js_document.proofs.BlockLemmas.{entries_both}
use Rattle.js_document.proofs.KeptLemmas.{rows_joined}
use Rattle.js_document.proofs.blocks.numbered.found_in_blocks.Goals as goal

pub loop-block-preserved : goal.loop-block-preserved
loop-block-preserved g c =
    let blocks = c.args.blocks.now in
    let at = c.loop-block.block-index in
    let b = c.block-item.result in
    let before = entries_in (take at blocks) in
    let more = ap entries_in (take_more blocks at b (omega (arith, c.loop-block-test.true)))
    ∙ ap (λ x. entries_in (take at blocks ++ x ∷ [])) (sym c.block-item.is) ∙ entries_both (take at blocks) (b ∷ [])
    ∙ ap (λ es. before ++ es) (append-nil b.entries) in
    c.in_ok-counts.ensures (rows_of before) c.loop-block.invariant
    ∙ ap (λ rows. counts_in (found_by rows)) (sym (ap rows_of more ∙ rows_joined before b.entries))
