use Rattle.std.proofs.Common.{◌++◌}
use Rattle.js_relex.proofs.LiveInPlace.{goes_both, live_report}
use Rattle.js_relex.proofs.patch.live_of_each.Goals as goal

pub returns : goal.returns
returns c =
    let none = c.empty_report-report.result in
    let first = c.args.first.now in
    let next = c.args.next.now in
    let last = c.args.last.now in
    live_report none c.add_live_rows-3.new.report (first ++ next ++ last) c.empty_report-report.ensures
    (goes_both none c.add_live_rows-2.new.report c.add_live_rows-3.new.report (first ++ next) last
    (goes_both none c.add_live_rows.new.report c.add_live_rows-2.new.report first next c.in_ok-add_live_rows.ensures
    c.in_ok-add_live_rows-2.ensures)
    c.in_ok-add_live_rows-3.ensures)
