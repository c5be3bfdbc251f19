use Rattle.std.proofs.Common.{arith}
use Rattle.js_relex.proofs.LiveInPlace.{goes_next_row}
use Rattle.js_relex.proofs.gather.add_live_rows.Goals as goal

pub loop-row-preserved : goal.loop-row-preserved
loop-row-preserved c =
    goes_next_row c.args.report.now c.loop-row.report c.add_live.new.report c.args.rows.now c.loop-row.row-index
    c.row-item.result c.row-item.result (omega (arith, c.loop-row-test.true)) c.row-item.is c.loop-row.invariant
    c.in_ok-add_live.ensures
