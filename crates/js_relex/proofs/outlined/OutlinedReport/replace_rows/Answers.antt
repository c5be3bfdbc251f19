use Rattle.std.proofs.Common.{◌∙◌, ◌-◌, ◌++◌, ap, drop, length, map, subst, sym, take}
use Rattle.std.specs.List.{AllByRecursion}
use Rattle.js_session.specs.declared.report.Report.{Report}
use Rattle.js_session.specs.Shifted.{shifted_row}
use Rattle.js_relex.specs.Documents.{MayMove}
use Rattle.js_relex.proofs.OutlineLemmas.{outlines_fit, outlines_replaced}
use Rattle.js_relex.proofs.outlined.OutlinedReport.replace_rows.Goals as goal

pub replaced_outlines-requires-clause-fits : goal.replaced_outlines-requires-clause-fits
replaced_outlines-requires-clause-fits c =
    let from = c.args.shift.now.from in
    let to = c.args.shift.now.to in
    outlines_fit from to c.args.behind c.self.inside.report.rows c.as_slice.result.now
    (c.as_slice.ensures ∙ c.self.invariant)
    (subst (λ (r : Report). AllByRecursion (MayMove from to) (drop (length r.rows - c.args.behind) r.rows))
    (sym c.self.view_is) c.requires.may_move)

pub invariant_of-self-2 : goal.invariant_of-self-2
invariant_of-self-2 c =
    let from = c.args.shift.now.from in
    let to = c.args.shift.now.to in
    let rows = c.self.inside.report.rows in
    let moved = map (shifted_row from to) (drop (length rows - c.args.behind) rows) in
    outlines_replaced from to c.args.kept c.args.behind rows c.as_slice-2.result.now _ c.as_slice.result.now
    c.in_ok-outlines.outlines (c.as_slice.ensures ∙ c.self.invariant) c.in_ok-outlines.ensures
    (c.in_ok-replace_rows.ensures.ok ∙ ap (λ rs. take c.args.kept rows ++ rs ++ moved) (sym c.as_slice-2.ensures))
