use Rattle.std.proofs.Common.{◌∙◌, ap, drop, subst, sym}
use Rattle.std.specs.Prelude.{OnOk}
use Rattle.js_session.specs.declared.report.Report.{Report}
use Rattle.js_session.specs.Live.{report_live}
use Rattle.js_relex.specs.Documents.{GoesLive}
use Rattle.js_relex.specs.LiveLists.{AreWithin, LiveMayMove, StartsAnew, joined_live, live_from, live_lengths}
use Rattle.js_relex.specs.LiveLists.{shifted_live}
use Rattle.js_relex.proofs.LiveParts.{move_from, moved_from, within_report}
use Rattle.js_relex.proofs.Outcomes.{ok_gives}
use Rattle.js_relex.proofs.live.add_moved_live.Goals as goal

pub add_moved_from-requires-clause-inside : goal.add_moved_from-requires-clause-inside
add_moved_from-requires-clause-inside c =
    subst
    (λ (r : Report). AreWithin c.lengths_further-lengths.result (live_lengths (report_live r)))
    (sym c.report-old_report.ensures)
    (within_report c.args.old.now c.requires.lasted c.requires.live c.next_start-next.result
    c.lengths_further-lengths.result c.lengths_further-lengths.ensures)

pub add_moved_from-requires-clause-may_move : goal.add_moved_from-requires-clause-may_move
add_moved_from-requires-clause-may_move c =
    let rows_are = c.as_slice-rows.ensures ∙ ap (λ (r : Report). r.rows) c.report-old_report.ensures in
    let from = c.args.shift.now.from in
    let to = c.args.shift.now.to in
    subst (λ (r : Report). LiveMayMove from to (live_from c.lengths_further-lengths.result (report_live r)))
    (sym c.report-old_report.ensures)
    (move_from c.args.old.now c.requires.lasted c.requires.live c.next_start-next.result
    c.lengths_further-lengths.result c.lengths_further-lengths.ensures
    (subst (λ rs. StartsAnew (drop c.next_start-next.result rs)) rows_are c.next_start-next.ensures.anew) from to
    c.args.place c.next_start-next.ensures.behind c.requires.may_move)

pub returns : goal.returns
returns c =
    let rows_are = c.as_slice-rows.ensures ∙ ap (λ (r : Report). r.rows) c.report-old_report.ensures in
    ok_gives c.add_moved_from.result
    (λ _. moved_from c.args.old.now c.requires.lasted c.requires.live c.next_start-next.result
    c.lengths_further-lengths.result c.lengths_further-lengths.ensures
    (subst (λ rs. StartsAnew (drop c.next_start-next.result rs)) rows_are c.next_start-next.ensures.anew)
    c.args.shift.now.from c.args.shift.now.to c.args.place c.args.report.now c.add_moved_live_rows.new.report
    c.add_moved_from.new.report c.as_slice-rows.result.now c.next_start-next.ensures.behind rows_are
    c.in_ok-add_moved_live_rows.ensures)
    (subst
    (λ (r : Report). OnOk c.add_moved_from.result (GoesLive c.add_moved_live_rows.new.report (joined_live
    (report_live c.add_moved_live_rows.new.report) (shifted_live c.args.shift.now.from c.args.shift.now.to
    (live_from c.lengths_further-lengths.result (report_live r)))) c.add_moved_from.new.report))
    c.report-old_report.ensures c.add_moved_from.ensures)
