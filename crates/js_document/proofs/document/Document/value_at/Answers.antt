use Rattle.std.proofs.Common.{◌≡◌, ◌∙◌, None, Some, ap, arith, subst, sym}
use Rattle.std.specs.Option.{option_map}
use Rattle.js_kind.specs.TokenParts.{TokenParts}
use Rattle.js_session.specs.declared.row.Row.{Row}
use Rattle.js_session.specs.Report.{IsSliceOnPlaces}
use Rattle.js_session.proofs.RunLemmas.{rows_slices}
use Rattle.js_lists.specs.Taken.{value_handed}
use Rattle.js_document.specs.Documents.{DocState, commands_of, report_of}
use Rattle.js_document.specs.Gap.{entries_of, rows_of}
use Rattle.js_document.specs.Values.{IsValueAt, live_values}
use Rattle.js_document.proofs.HeldLemmas.{held_rows}
use Rattle.js_document.proofs.ListLemmas.{each_there}
use Rattle.js_document.proofs.LiveRows.{none_from, none_past}
use Rattle.js_document.proofs.LiveValues.{no_value, slice_handed, value_there}
use Rattle.js_document.proofs.OrderLemmas.{rows_ordered}
use Rattle.js_document.proofs.document.Document.value_at.Goals as goal

pub row_at-requires : goal.row_at-requires
row_at-requires g c =
    let rule = g.K.KeepGoals.choice in
    let law = g.met.K.KeepGoals.is_rule in
    let text = c.self.inside.text in
    let t = c.self.inside.source_type in
    let rows = rows_of (entries_of c.self.inside.entries) in
    let held = held_rows rule law text t rows c.self.invariant.report_is in
    (rows_ordered rule law text t rows c.self.invariant.report_is.report_is.utf8 held).order

pub returns-in_err-index-clause-value : goal.returns-in_err-index-clause-value
returns-in_err-index-clause-value g c =
    let rule = g.K.KeepGoals.choice in
    let law = g.met.K.KeepGoals.is_rule in
    let text = c.self.inside.text in
    let t = c.self.inside.source_type in
    let rows = rows_of (entries_of c.self.inside.entries) in
    let held = held_rows rule law text t rows c.self.invariant.report_is in
    let utf8 = c.self.invariant.report_is.report_is.utf8 in
    let now = c.args.self.now in
    subst
    (λ o. IsValueAt c.args.offset now.report.tokens (live_values now.commands now.report.rows) (option_map value_handed o))
    (sym c.from_residual.ensures)
    (subst
    (λ (d : DocState). IsValueAt c.args.offset d.report.tokens (live_values d.commands d.report.rows) None) c.self.view_is
    (no_value c.args.offset (report_of rows).tokens (live_values (commands_of rows) rows)
    (none_from rule law text t rows utf8 held c.args.offset c.in_err-index.ensures)))

pub returns-then-offset-end-clause-value : goal.returns-then-offset-end-clause-value
returns-then-offset-end-clause-value g c =
    let rule = g.K.KeepGoals.choice in
    let law = g.met.K.KeepGoals.is_rule in
    let text = c.self.inside.text in
    let t = c.self.inside.source_type in
    let rows = rows_of (entries_of c.self.inside.entries) in
    let held = held_rows rule law text t rows c.self.invariant.report_is in
    let report = c.self.invariant.report_is.report_is in
    let now = c.args.self.now in
    let last = c.in_ok-index.ensures in
    let token = c.in_ok-token.token in
    let there : Some token ≡ Some last.row.token =
    sym c.in_ok-token.was ∙ c.token.ensures ∙ ap (option_map (λ row. row.token)) last.is_there in
    let same : token ≡ last.row.token = cc in
    let end = c.end.ensures in
    let before = c.if-offset-end.true in
    let ends = ap (λ (x : TokenParts). x.end) same in
    subst (IsValueAt c.args.offset now.report.tokens (live_values now.commands now.report.rows))
    (sym (c.value.ensures ∙ ap (option_map (λ row. row.value)) last.is_there))
    (subst
    (λ (d : DocState). IsValueAt c.args.offset d.report.tokens (live_values d.commands d.report.rows)
    (Some last.row.value)) c.self.view_is
    (value_there rule law text t rows report.utf8 held report c.args.offset c.in_ok-index.index last
    (omega (arith, before, end, ends))))

pub returns-then-offset-end-clause-slices : goal.returns-then-offset-end-clause-slices
returns-then-offset-end-clause-slices g c =
    let text = c.self.inside.text in
    let t = c.self.inside.source_type in
    let rows = rows_of (entries_of c.self.inside.entries) in
    let slices = rows_slices text t (commands_of rows) rows c.self.invariant.report_is.report_is.rows in
    let last = c.in_ok-index.ensures in
    slice_handed c.args.self.now.text c.value.result last.row.value
    (c.value.ensures ∙ ap (option_map (λ row. row.value)) last.is_there)
    (subst (λ (d : DocState). IsSliceOnPlaces d.text last.row.value) c.self.view_is
    (each_there (λ (row : Row). IsSliceOnPlaces text row.value) rows c.in_ok-index.index last.row slices last.is_there))

pub returns-else-offset-end-clause-value : goal.returns-else-offset-end-clause-value
returns-else-offset-end-clause-value g c =
    let rule = g.K.KeepGoals.choice in
    let law = g.met.K.KeepGoals.is_rule in
    let text = c.self.inside.text in
    let t = c.self.inside.source_type in
    let rows = rows_of (entries_of c.self.inside.entries) in
    let held = held_rows rule law text t rows c.self.invariant.report_is in
    let utf8 = c.self.invariant.report_is.report_is.utf8 in
    let last = c.in_ok-index.ensures in
    let token = c.in_ok-token.token in
    let there : Some token ≡ Some last.row.token =
    sym c.in_ok-token.was ∙ c.token.ensures ∙ ap (option_map (λ row. row.token)) last.is_there in
    let same : token ≡ last.row.token = cc in
    let end = c.end.ensures in
    let past = c.if-offset-end.false in
    let ends = ap (λ (x : TokenParts). x.end) same in
    subst (λ (d : DocState). IsValueAt c.args.offset d.report.tokens (live_values d.commands d.report.rows) None)
    c.self.view_is
    (no_value c.args.offset (report_of rows).tokens (live_values (commands_of rows) rows)
    (none_past rule law text t rows utf8 held c.args.offset c.in_ok-index.index last
    (omega (arith, past, end, ends))))
