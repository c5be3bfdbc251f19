use Rattle.std.proofs.Common.{subst}
use Rattle.js_relex.proofs.LiveInPlace.{GoesBehind, gathered_rows}
use Rattle.js_relex.proofs.gather.report_of_rows.Goals as goal

pub returns : goal.returns
returns c =
    let none = c.empty_report-report.result in
    let live = c.add_live_rows.new.report in
    gathered_rows none live c.with_rows.result c.args.rows c.empty_report-report.ensures
    (subst (λ rows. GoesBehind none rows live) c.as_slice.ensures c.in_ok-add_live_rows.ensures) c.with_rows.ensures
