use Rattle.std.proofs.Common.{◌≡◌, ◌∙◌, ap, drop, map, subst, sym}
use Rattle.std.specs.List.{AllByRecursion}
use Rattle.js_session.specs.Report.{IsSliceOnPlaces}
use Rattle.js_session.proofs.RunLemmas.{rows_slices}
use Rattle.js_lists.specs.LiveLists.{live_taken}
use Rattle.js_lists.specs.Taken.{Taken}
use Rattle.js_document.specs.Documents.{DocState, commands_of}
use Rattle.js_document.specs.Gap.{entries_of, rows_of}
use Rattle.js_document.specs.Values.{live_values}
use Rattle.js_document.proofs.HeldLemmas.{held_rows}
use Rattle.js_document.proofs.LiveValues.{slices_in, taken_tokens, values_are}
use Rattle.js_document.proofs.TokensFrom.{values_from}
use Rattle.js_document.proofs.document.Document.values_from.Goals as goal

pub returns-clause-values : goal.returns-clause-values
returns-clause-values g c =
    let rule = g.K.KeepGoals.choice in
    let law = g.met.K.KeepGoals.is_rule in
    let text = c.self.inside.text in
    let t = c.self.inside.source_type in
    let rows = rows_of (entries_of c.self.inside.entries) in
    let report = c.self.invariant.report_is.report_is in
    let held = held_rows rule law text t rows c.self.invariant.report_is in
    c.new.ensures
    ∙ values_from rule law text t rows report.utf8 held report c.args.index c.row_of_token.result c.row_of_token.ensures
    ∙ ap (λ (d : DocState). drop c.args.index (live_values d.commands d.report.rows)) c.self.view_is

pub returns-clause-tokens : goal.returns-clause-tokens
returns-clause-tokens g c =
    let rule = g.K.KeepGoals.choice in
    let law = g.met.K.KeepGoals.is_rule in
    let text = c.self.inside.text in
    let t = c.self.inside.source_type in
    let rows = rows_of (entries_of c.self.inside.entries) in
    let report = c.self.invariant.report_is.report_is in
    subst (λ (d : DocState). map (λ (x : Taken). x.token) (live_taken d.commands d.report.rows) ≡ d.report.tokens)
    c.self.view_is
    (taken_tokens rule law text t rows report.utf8 (held_rows rule law text t rows c.self.invariant.report_is) report)

pub returns-clause-slices : goal.returns-clause-slices
returns-clause-slices g c =
    let rule = g.K.KeepGoals.choice in
    let law = g.met.K.KeepGoals.is_rule in
    let text = c.self.inside.text in
    let t = c.self.inside.source_type in
    let rows = rows_of (entries_of c.self.inside.entries) in
    let report = c.self.invariant.report_is.report_is in
    let held = held_rows rule law text t rows c.self.invariant.report_is in
    let slices = slices_in text rows (rows_slices text t (commands_of rows) rows report.rows) in
    subst (λ (d : DocState). AllByRecursion (IsSliceOnPlaces d.text) (live_values d.commands d.report.rows)) c.self.view_is
    (subst (AllByRecursion (IsSliceOnPlaces text)) (sym (values_are rule law text t rows report.utf8 held)) slices)
