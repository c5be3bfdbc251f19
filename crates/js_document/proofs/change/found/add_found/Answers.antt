use Rattle.std.proofs.Common.{◌++◌, ◌∙◌, ap, arith}
use Rattle.js_document.proofs.ChangedFound.{added_more}
use Rattle.js_document.proofs.change.found.add_found.Goals as goal

pub loop-entry-preserved : goal.loop-entry-preserved
loop-entry-preserved g c =
    added_more g.L.FoundList.items c.args.entries.now c.loop-entry.entry-index c.entry-item.result c.args.items.now
    c.loop-entry.items c.extend_from_slice.new.self (omega (arith, c.loop-entry-test.true)) c.entry-item.is
    c.loop-entry.invariant
    (c.in_ok-extend_from_slice.ensures.ok ∙ ap (λ l. c.loop-entry.items ++ l) c.list.ensures)
