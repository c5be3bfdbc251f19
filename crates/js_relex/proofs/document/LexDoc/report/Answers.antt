use Rattle.std.proofs.Common.{subst, sym}
use Rattle.std.specs.List.{AllByRecursion}
use Rattle.js_session.specs.Report.{IsSliceOnPlaces}
use Rattle.js_session.specs.declared.report.Report.{Report}
use Rattle.js_session.proofs.RunLemmas.{rows_slices}
use Rattle.js_relex.specs.Documents.{DocState}
use Rattle.js_relex.proofs.document.LexDoc.report.Goals as goal

pub returns-clause-slices : goal.returns-clause-slices
returns-clause-slices c =
    let d = c.self.inside in
    subst (λ (r : Report). AllByRecursion (λ row. IsSliceOnPlaces c.args.self.now.text row.value) r.rows)
    (sym c.report.ensures)
    (subst (λ (s : DocState). AllByRecursion (λ row. IsSliceOnPlaces s.text row.value) d.report.rows) c.self.view_is
    (rows_slices d.text d.source_type d.commands d.report.rows c.self.invariant.report_is.rows))
