use Rattle.std.proofs.Common.{◌∙◌, ap, subst, sym, take}
use Rattle.js_session.specs.declared.report.Report.{Report}
use Rattle.js_session.specs.Live.{report_live}
use Rattle.js_relex.specs.LiveLists.{AreWithin, live_lengths, more_lengths}
use Rattle.js_relex.proofs.LiveParts.{counted_at, within_report}
use Rattle.js_relex.proofs.OutlineLemmas.{outlines_between}
use Rattle.js_relex.proofs.live.lengths_at.Goals as goal

pub more_lengths-requires-clause-outlined : goal.more_lengths-requires-clause-outlined
more_lengths-requires-clause-outlined c =
    outlines_between 0 c.args.place c.args.old.now.rows c.as_slice.result.now c.outlines.result.now
    (c.as_slice.ensures ∙ ap (λ (r : Report). r.rows) c.report-report.ensures) c.outlines.ensures

pub more_lengths-requires-clause-inside : goal.more_lengths-requires-clause-inside
more_lengths-requires-clause-inside c =
    let rows_are = c.as_slice.ensures ∙ ap (λ (r : Report). r.rows) c.report-report.ensures in
    subst
    (λ (r : Report). AreWithin (more_lengths c.no_lengths.result c.count_first_readings-readings.result
    (take c.args.place c.as_slice.result.now)) (live_lengths (report_live r))) (sym c.report-report.ensures)
    (within_report c.args.old.now c.requires.lasted.lasted c.requires.lasted.live c.args.place _
    (counted_at c.args.old.now c.args.commands.now c.args.place c.no_lengths.result
    c.count_first_readings-readings.result c.as_slice.result.now c.requires.lasted c.no_lengths.ensures
    c.count_first_readings-readings.ensures rows_are))

pub returns : goal.returns
returns c =
    c.more_lengths.ensures
    ∙ counted_at c.args.old.now c.args.commands.now c.args.place c.no_lengths.result
    c.count_first_readings-readings.result c.as_slice.result.now c.requires.lasted c.no_lengths.ensures
    c.count_first_readings-readings.ensures
    (c.as_slice.ensures ∙ ap (λ (r : Report). r.rows) c.report-report.ensures)
