use Rattle.std.proofs.Common.{arith}
use Rattle.js_document.proofs.EntryLoops.{live_up_to}
use Rattle.js_document.proofs.change.add_read.Goals as goal

pub loop-entry-preserved : goal.loop-entry-preserved
loop-entry-preserved g c =
    live_up_to c.args.entries.now c.loop-entry.entry-index c.entry-item.result c.args.tokens.now c.loop-entry.tokens
    c.add_token.new.tokens (omega (arith, c.loop-entry-test.true)) c.entry-item.is c.loop-entry.invariant
    c.in_ok-add_token.ensures
