use Rattle.js_relex.proofs.LiveParts.{before_place, within_report}
use Rattle.js_relex.proofs.live.live_before.Goals as goal

pub add_up_to-requires : goal.add_up_to-requires
add_up_to-requires c =
    within_report c.args.old.now c.requires.lasted c.requires.live c.args.start c.args.lengths c.requires.lengths

pub returns : goal.returns
returns c =
    before_place c.args.old.now c.requires.lasted c.requires.live c.args.start c.args.lengths c.requires.lengths
    c.requires.anew c.empty_report-report.result c.add_up_to.new.report c.add_live_rows.new.report c.as_slice.result.now
    c.args.place c.requires.ordered c.as_slice.ensures c.empty_report-report.ensures c.in_ok-add_up_to.ensures
    c.in_ok-add_live_rows.ensures
