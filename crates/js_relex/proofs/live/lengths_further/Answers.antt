use Rattle.std.proofs.Common.{◌∙◌, ◌-◌, ap, drop, subst, sym, take}
use Rattle.js_session.specs.declared.report.Report.{Report}
use Rattle.js_session.specs.Live.{report_live}
use Rattle.js_relex.specs.LiveLists.{AreWithin, live_lengths, more_lengths}
use Rattle.js_relex.proofs.LiveParts.{counted_further, short_further, within_report}
use Rattle.js_relex.proofs.OutlineLemmas.{outlines_between}
use Rattle.js_relex.proofs.live.lengths_further.Goals as goal

pub more_lengths-requires-clause-outlined : goal.more_lengths-requires-clause-outlined
more_lengths-requires-clause-outlined c =
    outlines_between c.args.start (c.args.end - c.args.start) c.args.old.now.rows c.as_slice.result.now
    c.outlines.result.now (c.as_slice.ensures ∙ ap (λ (r : Report). r.rows) c.report-report.ensures)
    c.outlines.ensures

pub more_lengths-requires-clause-inside : goal.more_lengths-requires-clause-inside
more_lengths-requires-clause-inside c =
    let rows_are = c.as_slice.ensures ∙ ap (λ (r : Report). r.rows) c.report-report.ensures in
    subst
    (λ (r : Report). AreWithin (more_lengths c.args.before c.count_row_readings.result
    (take (c.args.end - c.args.start) (drop c.args.start c.as_slice.result.now))) (live_lengths (report_live r)))
    (sym c.report-report.ensures)
    (within_report c.args.old.now c.requires.lasted c.requires.live c.args.end _
    (counted_further c.args.old.now c.requires.lasted c.requires.live c.args.start c.args.end c.args.before
    c.count_row_readings.result c.as_slice.result.now c.requires.ordered c.requires.before rows_are
    c.count_row_readings.ensures.count))

pub more_lengths-requires-clause-short : goal.more_lengths-requires-clause-short
more_lengths-requires-clause-short c =
    short_further c.args.old.now c.requires.lasted c.requires.live c.args.start c.args.end c.args.before
    c.count_row_readings.result c.as_slice.result.now c.requires.ordered c.requires.before
    (c.as_slice.ensures ∙ ap (λ (r : Report). r.rows) c.report-report.ensures)
    c.count_row_readings.ensures.count c.as_slice.type_inv.0

pub returns : goal.returns
returns c =
    c.more_lengths.ensures
    ∙ counted_further c.args.old.now c.requires.lasted c.requires.live c.args.start c.args.end c.args.before
    c.count_row_readings.result c.as_slice.result.now c.requires.ordered c.requires.before
    (c.as_slice.ensures ∙ ap (λ (r : Report). r.rows) c.report-report.ensures)
    c.count_row_readings.ensures.count
