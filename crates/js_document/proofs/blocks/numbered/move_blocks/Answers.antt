use Rattle.std.proofs.Common.{◌∙◌, ap, arith, set, sym}
use Rattle.std.proofs.lemmas.List.Edits.{map_over_more}
use Rattle.js_document.specs.Blocks.{moved_block}
use Rattle.js_document.proofs.blocks.numbered.move_blocks.Goals as goal

pub loop-block-preserved : goal.loop-block-preserved
loop-block-preserved g c =
    let shift = c.args.shift.now in
    let at = c.loop-block.block-index in
    ap (set c.loop-block.blocks at)
    (c.move_by.ensures ∙ ap (moved_block shift.from shift.to) (sym c.block-item.is))
    ∙ map_over_more (moved_block shift.from shift.to) c.args.blocks.now c.loop-block.blocks at c.block-item.result
    (omega (arith, c.loop-block-test.true)) c.loop-block.invariant c.block-item.is
