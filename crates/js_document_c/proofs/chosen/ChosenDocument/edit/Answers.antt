use Rattle.std.proofs.Common.{subst, sym}
use Rattle.std.specs.Prelude.{OnOk}
use Rattle.std.proofs.lemmas.Result.{on_ok_weaker}
use Rattle.js_document_c.specs.Chosen.{document_in, goals_in}
use Rattle.js_document_c.specs.Held.{IsEdited}
use Rattle.js_document_c.proofs.chosen.ChosenDocument.edit.Goals as goal

pub returns-in-Jsx-clause-ok : goal.returns-in-Jsx-clause-ok
returns-in-Jsx-clause-ok g c =
    subst
    (λ d. OnOk c.edit-in-Jsx.result
    (IsEdited (goals_in d) (document_in d) c.args.edit.now.start c.args.edit.now.end c.args.edit.now.text.now
    c.edit-in-Jsx.new.self))
    (sym c.in-Jsx.is)
    (on_ok_weaker c.edit-in-Jsx.result
    (λ edits. record { before = c.args.steps.now; now = c.edit-in-Jsx.new.steps; edits = edits }) c.edit-in-Jsx.ensures.ok)
