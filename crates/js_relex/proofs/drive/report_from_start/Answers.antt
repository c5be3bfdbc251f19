use Rattle.std.proofs.Common.{sym, subst, ap, arith, length}
use Rattle.js_session.specs.Report.{ReportOf}
use Rattle.js_session.specs.declared.report.Report.{Report}
use Rattle.js_relex.proofs.DrivenRows.{driven_from_start}
use Rattle.js_relex.proofs.drive.report_from_start.Goals as goal

pub returns-clause-report : goal.returns-clause-report
returns-clause-report g c =
    let driven =
    driven_from_start c.args.text.now c.args.source_type _ c.args.commands.now c.in-Ok.session c.step_each.new.session
    c.utf8.text c.requires.short c.requires.lasting c.in-Ok.ensures.ok c.in_ok-step_each.ensures.runs in
    subst (ReportOf c.args.text.now c.args.source_type _ c.args.commands.now) (sym c.finish.ensures.report)
    driven.report_is

pub returns-clause-ticks : goal.returns-clause-ticks
returns-clause-ticks g c =
    let driven =
    driven_from_start c.args.text.now c.args.source_type _ c.args.commands.now c.in-Ok.session c.step_each.new.session
    c.utf8.text c.requires.short c.requires.lasting c.in-Ok.ensures.ok c.in_ok-step_each.ensures.runs in
    let rows = ap (λ (r : Report). length r.rows) c.finish.ensures.report in
    omega (arith, rows, driven.count_is, c.in_ok-step_each.ensures.ticks, c.in-Ok.ensures.ticks)
