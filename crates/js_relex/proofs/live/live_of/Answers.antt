use Rattle.std.proofs.Common.{◌-◌, ◌≡◌, ◌∙◌, [], ◌++◌, ap, drop, length, map, take}
use Rattle.js_session.specs.declared.report.Report.{Report}
use Rattle.js_session.specs.Live.{nothing_live, report_with}
use Rattle.js_session.specs.Shifted.{shifted_row}
use Rattle.js_relex.specs.Documents.{live_behind}
use Rattle.js_relex.proofs.LiveParts.{goes_on_live}
use Rattle.js_relex.proofs.live.live_of.Goals as goal

pub returns : goal.returns
returns c =
    let rows = c.args.old.now.rows in
    let f = shifted_row c.args.shift.now.from c.args.shift.now.to in
    let front = take c.args.kept rows in
    let read = c.args.read.now in
    let kept : c.in_ok-report.report ≡ report_with [] [] (live_behind nothing_live front) =
    c.in_ok-report.ensures
    ∙ ap (λ (r : Report). report_with [] [] (live_behind nothing_live (take c.args.kept r.rows)))
    c.report-old_report.ensures in
    let count = c.len.ensures ∙ ap (λ (r : Report). length r.rows) c.report-old_report.ensures in
    goes_on_live c.add_live_rows.new.report c.add_moved_live.new.report (front ++ read)
    (map f (drop (c.len.result - c.args.behind) rows))
    (goes_on_live c.in_ok-report.report c.add_live_rows.new.report front read kept c.in_ok-add_live_rows.ensures)
    c.in_ok-add_moved_live.ensures
    ∙ ap (λ n. report_with [] [] (live_behind nothing_live (front ++ read ++ map f (drop (n - c.args.behind) rows))))
    count
