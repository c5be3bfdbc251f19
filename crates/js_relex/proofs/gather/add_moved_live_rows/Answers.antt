use Rattle.std.proofs.Common.{◌∙◌, ap, arith}
use Rattle.js_session.specs.Shifted.{shifted_row}
use Rattle.js_relex.proofs.LiveInPlace.{goes_next}
use Rattle.js_relex.proofs.gather.add_moved_live_rows.Goals as goal

pub loop-row-preserved : goal.loop-row-preserved
loop-row-preserved c =
    let f = shifted_row c.args.shift.now.from c.args.shift.now.to in
    goes_next f c.args.report.now c.loop-row.report c.add_live.new.report c.args.rows.now c.loop-row.row-index
    c.in_ok-moved.moved c.row-item.result (omega (arith, c.loop-row-test.true))
    (c.in_ok-moved.ensures ∙ ap f c.row-item.is) c.loop-row.invariant c.in_ok-add_live.ensures
