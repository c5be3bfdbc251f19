use Rattle.std.proofs.Common.{◌∙◌, ap, refl, sym}
use Rattle.js_grammar.specs.Outcome.{Findings}
use Rattle.js_document.specs.Documents.{DocState}
use Rattle.js_document.specs.Gap.{entries_of, rows_of}
use Rattle.js_document.proofs.FoundLemmas.{found_live}
use Rattle.js_document.proofs.HeldLemmas.{held_rows}
use Rattle.js_document.proofs.document.Document.comments.Goals as goal

pub returns : goal.returns
returns g c =
    let rule = g.K.KeepGoals.choice in
    let law = g.met.K.KeepGoals.is_rule in
    let text = c.self.inside.text in
    let t = c.self.inside.source_type in
    let rows = rows_of (entries_of c.self.inside.entries) in
    let held = held_rows rule law text t rows c.self.invariant.report_is in
    c.new.ensures
    ∙ sym
    (found_live (λ (f : Findings). f.comments) (λ (a b : Findings). refl) rule law text t rows
    c.self.invariant.report_is.report_is.utf8 held refl)
    ∙ ap (λ (d : DocState). d.report.comments) c.self.view_is
