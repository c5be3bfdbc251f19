use Rattle.std.proofs.Common.{◌≡◌, ◌∙◌, ◌+◌, ◌-◌, ◌++◌, ap, drop, length, map, sym, take}
use Rattle.js_session.specs.declared.report.Report.{Report}
use Rattle.js_relex.specs.Outlines.{outline_of}
use Rattle.js_relex.proofs.Patches.{outlines_overwritten}
use Rattle.js_relex.proofs.outlined.OutlinedReport.overwrite_rows.Goals as goal

pub invariant_of-self-2 : goal.invariant_of-self-2
invariant_of-self-2 c =
    let rows = c.self.inside.report.rows in
    let as_many : c.args.kept + length c.args.read + c.args.behind ≡ length rows =
    c.requires.as_many ∙ sym (ap (λ (r : Report). length r.rows) c.self.view_is) in
    outlines_overwritten c.args.kept c.args.behind rows c.args.read _ c.self.inside.outlines c.as_slice-2.result.now
    c.overwrite.new.list as_many c.self.invariant
    (c.as_slice-2.ensures ∙ c.in_ok-outlines.ensures ∙ ap (map outline_of) c.as_slice.ensures) c.overwrite.ensures
    (c.in_ok-replace.ensures.ok
    ∙ ap (λ n. take c.args.kept rows ++ c.args.read ++ drop (n - c.args.behind) rows) c.len.ensures)
