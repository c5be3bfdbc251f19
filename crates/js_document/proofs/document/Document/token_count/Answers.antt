use Rattle.std.proofs.Common.{◌∙◌, ap, length, sym}
use Rattle.js_document.specs.Documents.{DocState}
use Rattle.js_document.specs.Gap.{entries_of, rows_of}
use Rattle.js_document.proofs.HeldLemmas.{held_rows, report_count}
use Rattle.js_document.proofs.document.Document.token_count.Goals as goal

pub returns : goal.returns
returns g c =
    let d = c.self.inside in
    let rows = rows_of (entries_of d.entries) in
    c.tokens.ensures
    ∙ sym
    (report_count g.K.KeepGoals.choice g.met.K.KeepGoals.is_rule d.text d.source_type rows
    (held_rows g.K.KeepGoals.choice g.met.K.KeepGoals.is_rule d.text d.source_type rows c.self.invariant.report_is))
    ∙ ap (λ (x : DocState). length x.report.tokens) c.self.view_is
