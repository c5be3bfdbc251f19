use Rattle.std.proofs.Common.{◌+◌, ◌<◌, ◌∙◌, ap, arith, length, set, sym}
use Rattle.js_document.specs.Blocks.{BlockState}
use Rattle.js_document.specs.Gap.{count_tokens, rows_of}
use Rattle.js_document.proofs.BlockSteps.{number_more, rows_more, tokens_few, tokens_more, up_to_few}
use Rattle.js_document.proofs.blocks.numbered.number_blocks.Goals as goal

pub overflow_add-rows : goal.overflow_add-rows
overflow_add-rows g c =
    let x = c.block-item.result in
    let rows = rows_more c.args.blocks.now c.loop-block.blocks c.loop-block.block-index x c.loop-block.rows
    c.loop-block.tokens (omega (arith, c.loop-block-test.true)) c.loop-block.invariant.blocks c.block-item.is
    c.loop-block.invariant.rows c.loop-block.invariant.tokens in
    let few = up_to_few c.args.blocks.now (c.loop-block.block-index + 1) in
    let long = c.len-rows.ensures in
    let same = ap (λ b. length b.entries) c.number.ensures in
    let item = ap (λ b. length b.entries) c.block-item.is in
    let all = c.requires in
    omega (arith, rows, few, long, same, item, all)

pub overflow_add-tokens : goal.overflow_add-tokens
overflow_add-tokens g c =
    let x = c.block-item.result in
    let tokens = tokens_more c.args.blocks.now c.loop-block.blocks c.loop-block.block-index x c.loop-block.rows
    c.loop-block.tokens (omega (arith, c.loop-block-test.true)) c.loop-block.invariant.blocks c.block-item.is
    c.loop-block.invariant.rows c.loop-block.invariant.tokens in
    let few = tokens_few c.args.blocks.now (c.loop-block.block-index + 1) in
    let count = c.tokens-tokens.ensures in
    let same = ap (λ b. count_tokens (rows_of b.entries)) c.number.ensures in
    let item = ap (λ b. count_tokens (rows_of b.entries)) c.block-item.is in
    let all = c.requires in
    omega (arith, tokens, few, count, same, item, all)

pub loop-block-preserved : goal.loop-block-preserved
loop-block-preserved g c =
    let x = c.block-item.result in
    let at = c.loop-block.block-index in
    let less : at < length c.args.blocks.now = omega (arith, c.loop-block-test.true) in
    let now = c.loop-block.invariant in
    let told = ap {A = BlockState g.row.K.Denot} (λ b. record b { rows_before = c.loop-block.rows; tokens_before = c.loop-block.tokens })
    (sym c.block-item.is) in
    let old = c.args.blocks.now in
    let rows = rows_more old c.loop-block.blocks at x c.loop-block.rows c.loop-block.tokens less now.blocks c.block-item.is
    now.rows now.tokens in
    let tokens = tokens_more old c.loop-block.blocks at x c.loop-block.rows c.loop-block.tokens less now.blocks
    c.block-item.is now.rows now.tokens in
    let long = c.len-rows.ensures ∙ ap (λ b. length b.entries) (c.number.ensures ∙ told) in
    let count = c.tokens-tokens.ensures ∙ ap (λ b. count_tokens (rows_of b.entries)) (c.number.ensures ∙ told) in
    record {
      blocks =
          ap (set c.loop-block.blocks at) (c.number.ensures ∙ told)
          ∙ number_more old c.loop-block.blocks at x c.loop-block.rows c.loop-block.tokens less now.blocks c.block-item.is
          now.rows now.tokens;
      rows = omega (arith, rows, long);
      tokens = omega (arith, tokens, count);
    }
