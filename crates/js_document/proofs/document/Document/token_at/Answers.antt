use Rattle.std.proofs.Common.{◌≡◌, ◌∙◌, Some, ap, arith, subst, sym}
use Rattle.std.specs.List.{AllByRecursion}
use Rattle.std.specs.Option.{option_map}
use Rattle.js_document.specs.Documents.{DocState}
use Rattle.js_document.specs.Gap.{entries_of, rows_of}
use Rattle.js_document.specs.LiveTokens.{Covers, IsCovered, IsTokenAt}
use Rattle.js_document.proofs.HeldLemmas.{held_rows}
use Rattle.js_document.proofs.LiveRows.{covered, none_from, none_past}
use Rattle.js_document.proofs.OrderLemmas.{rows_ordered}
use Rattle.js_document.proofs.document.Document.token_at.Goals as goal

pub row_at-requires : goal.row_at-requires
row_at-requires g c =
    let rule = g.K.KeepGoals.choice in
    let law = g.met.K.KeepGoals.is_rule in
    let text = c.self.inside.text in
    let t = c.self.inside.source_type in
    let rows = rows_of (entries_of c.self.inside.entries) in
    let held = held_rows rule law text t rows c.self.invariant.report_is in
    (rows_ordered rule law text t rows c.self.invariant.report_is.report_is.utf8 held).order

pub returns-in_err-row_at : goal.returns-in_err-row_at
returns-in_err-row_at g c =
    let rule = g.K.KeepGoals.choice in
    let law = g.met.K.KeepGoals.is_rule in
    let text = c.self.inside.text in
    let t = c.self.inside.source_type in
    let rows = rows_of (entries_of c.self.inside.entries) in
    let held = held_rows rule law text t rows c.self.invariant.report_is in
    let utf8 = c.self.invariant.report_is.report_is.utf8 in
    subst (IsTokenAt c.args.offset c.args.self.now.report.tokens) (sym c.from_residual.ensures)
    (subst (λ (d : DocState). AllByRecursion (λ token. Covers c.args.offset token → ⊥) d.report.tokens) c.self.view_is
    (none_from rule law text t rows utf8 held c.args.offset c.in_err-row_at.ensures))

pub returns-then-offset-end : goal.returns-then-offset-end
returns-then-offset-end g c =
    let rule = g.K.KeepGoals.choice in
    let law = g.met.K.KeepGoals.is_rule in
    let text = c.self.inside.text in
    let t = c.self.inside.source_type in
    let rows = rows_of (entries_of c.self.inside.entries) in
    let held = held_rows rule law text t rows c.self.invariant.report_is in
    let utf8 = c.self.invariant.report_is.report_is.utf8 in
    let last = c.in_ok-row_at.ensures in
    let token = c.in_ok-token.token in
    let there : Some token ≡ Some last.row.token =
    sym c.in_ok-token.was ∙ c.token.ensures ∙ ap (option_map (λ row. row.token)) last.is_there in
    let same : token ≡ last.row.token = cc in
    let end = c.end.ensures in
    let before = c.if-offset-end.true in
    let ends = ap (λ x. x.end) same in
    subst (λ x. IsCovered c.args.offset c.args.self.now.report.tokens x) (sym same)
    (subst (λ (d : DocState). IsCovered c.args.offset d.report.tokens last.row.token) c.self.view_is
    (covered rule law text t rows utf8 held c.args.offset c.in_ok-row_at.field-0 last
    (omega (arith, before, end, ends))))

pub returns-else-offset-end : goal.returns-else-offset-end
returns-else-offset-end g c =
    let rule = g.K.KeepGoals.choice in
    let law = g.met.K.KeepGoals.is_rule in
    let text = c.self.inside.text in
    let t = c.self.inside.source_type in
    let rows = rows_of (entries_of c.self.inside.entries) in
    let held = held_rows rule law text t rows c.self.invariant.report_is in
    let utf8 = c.self.invariant.report_is.report_is.utf8 in
    let last = c.in_ok-row_at.ensures in
    let token = c.in_ok-token.token in
    let there : Some token ≡ Some last.row.token =
    sym c.in_ok-token.was ∙ c.token.ensures ∙ ap (option_map (λ row. row.token)) last.is_there in
    let same : token ≡ last.row.token = cc in
    let end = c.end.ensures in
    let past = c.if-offset-end.false in
    let ends = ap (λ x. x.end) same in
    subst (λ (d : DocState). AllByRecursion (λ x. Covers c.args.offset x → ⊥) d.report.tokens) c.self.view_is
    (none_past rule law text t rows utf8 held c.args.offset c.in_ok-row_at.field-0 last
    (omega (arith, past, end, ends)))
