use Rattle.std.proofs.Common.{arith}
use Rattle.js_document.proofs.GapLemmas.{count_more, more_few}
use Rattle.js_document.proofs.gap.count_tokens.Goals as goal

pub loop-entry-preserved : goal.loop-entry-preserved
loop-entry-preserved g c =
    let counted = count_more c.args.rows.now c.loop-entry.entry-index c.entry-item.result
    (omega (arith, c.loop-entry-test.true)) c.entry-item.is in
    let few = more_few c.entry-item.result in
    let before = c.loop-entry.invariant in
    let more = c.more_tokens-count.ensures in (
      omega (arith, counted, before.0, more),
      omega (arith, before.1, more, few),
    )
