use Rattle.std.proofs.Common.{arith}
use Rattle.js_document.proofs.CountLemmas.{counts_up_to}
use Rattle.js_document.proofs.gap.count_found.Goals as goal

pub loop-entry-preserved : goal.loop-entry-preserved
loop-entry-preserved g c = λ front start.
    counts_up_to front c.args.rows.now c.loop-entry.entry-index c.entry-item.result c.loop-entry.counts
    c.in_ok-counts.counts (omega (arith, c.loop-entry-test.true)) c.entry-item.is (c.loop-entry.invariant front start)
    c.in_ok-counts.ensures
