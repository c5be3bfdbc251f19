use Rattle.std.proofs.Common.{◌≡◌, ◌∙◌, ap, false, subst, sym}
use Rattle.std.proofs.lemmas.Result.{IfOk-weaker}
use Rattle.std.specs.List.{AllByRecursion}
use Rattle.js_session.specs.Report.{IsSliceOnPlaces}
use Rattle.js_session.proofs.RunLemmas.{rows_slices}
use Rattle.js_choose.specs.Rules.{ReportBy}
use Rattle.js_relex.specs.Documents.{IsGathered}
use Rattle.js_document.specs.Documents.{DocState, commands_of}
use Rattle.js_document.specs.Gap.{entries_of, rows_of}
use Rattle.js_document.proofs.HeldLemmas.{held_rows}
use Rattle.js_document.proofs.HeldReport.{gathered_held}
use Rattle.js_document.proofs.document.Document.report.Goals as goal

pub returns-clause-report : goal.returns-clause-report
returns-clause-report g c =
    let rule = g.K.KeepGoals.choice in
    let law = g.met.K.KeepGoals.is_rule in
    let rows = rows_of (entries_of c.self.inside.entries) in
    let held = held_rows rule law c.self.inside.text c.self.inside.source_type rows c.self.invariant.report_is in
    IfOk-weaker c.report_of_rows.result (IsGathered c.in_ok-rows.rows) (λ report. report ≡ c.args.self.now.report)
    (λ report is.
    gathered_held rule law c.self.inside.text c.self.inside.source_type rows report held
    (subst (λ rs. IsGathered rs report) c.in_ok-rows.ensures is)
    ∙ ap (λ (d : DocState). d.report) c.self.view_is)
    c.report_of_rows.ensures

pub returns-clause-chosen : goal.returns-clause-chosen
returns-clause-chosen g c =
    let rule = g.K.KeepGoals.choice in
    let law = g.met.K.KeepGoals.is_rule in
    let text = c.self.inside.text in
    let t = c.self.inside.source_type in
    let rows = rows_of (entries_of c.self.inside.entries) in
    let held = held_rows rule law text t rows c.self.invariant.report_is in
    let now = c.args.self.now in
    IfOk-weaker c.report_of_rows.result (IsGathered c.in_ok-rows.rows)
    (ReportBy rule now.text now.source_type false now.commands)
    (λ report is.
    subst (λ (d : DocState). ReportBy rule d.text d.source_type false d.commands report) c.self.view_is
    (subst (ReportBy rule text t false (commands_of rows))
    (sym (gathered_held rule law text t rows report held (subst (λ rs. IsGathered rs report) c.in_ok-rows.ensures is)))
    c.self.invariant.report_is))
    c.report_of_rows.ensures

pub returns-clause-slices : goal.returns-clause-slices
returns-clause-slices g c =
    let now = c.args.self.now in
    IfOk-weaker c.report_of_rows.result
    (ReportBy g.K.KeepGoals.choice now.text now.source_type false now.commands)
    (λ report. AllByRecursion (λ row. IsSliceOnPlaces now.text row.value) report.rows)
    (λ report by. rows_slices now.text now.source_type now.commands report.rows by.report_is.rows)
    (returns-clause-chosen g c)
