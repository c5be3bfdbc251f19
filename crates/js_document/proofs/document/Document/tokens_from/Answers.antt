use Rattle.std.proofs.Common.{◌∙◌, ap, drop}
use Rattle.js_document.specs.Documents.{DocState}
use Rattle.js_document.specs.Gap.{entries_of, rows_of}
use Rattle.js_document.proofs.HeldLemmas.{held_rows}
use Rattle.js_document.proofs.TokensFrom.{tokens_from}
use Rattle.js_document.proofs.document.Document.tokens_from.Goals as goal

pub returns : goal.returns
returns g c =
    let rule = g.K.KeepGoals.choice in
    let law = g.met.K.KeepGoals.is_rule in
    let text = c.self.inside.text in
    let t = c.self.inside.source_type in
    let rows = rows_of (entries_of c.self.inside.entries) in
    let report = c.self.invariant.report_is.report_is in
    let held = held_rows rule law text t rows c.self.invariant.report_is in
    c.new.ensures
    ∙ tokens_from rule law text t rows report.utf8 held report c.args.index c.row_of_token.result c.row_of_token.ensures
    ∙ ap (λ (d : DocState). drop c.args.index d.report.tokens) c.self.view_is
