use Rattle.std.proofs.Common.{◌<◌, ◌∙◌, ap, length, subst, sym}
use Rattle.std.specs.Prelude.{◌^◌}
use Rattle.js_relex.specs.Documents.{IsEdit, edited}
use Rattle.js_relex.proofs.Outcomes.{on_err}
use Rattle.js_document.specs.Documents.{DocState, Edits, IsHeld, document_of}
use Rattle.js_document.specs.Gap.{entries_of, rows_of}
use Rattle.js_document.proofs.HeldEdited.{still_held}
use Rattle.js_document.proofs.document.Document.take_edited.Goals as goal

pub edit_rows-requires-clause-held : goal.edit_rows-requires-clause-held
edit_rows-requires-clause-held g c =
    let edit = c.args.edit.now in (
      c.self.inside.text,
      record {
        held = c.self.invariant;
        edit = subst (λ (d : DocState). IsEdit d.text edit.start edit.end) (sym c.self.view_is) c.requires.edit;
        text_is =
            c.as_str.ensures ∙ c.requires.text
            ∙ sym (ap (λ (d : DocState). edited d.text edit.start edit.end edit.text.now) c.self.view_is);
      },
    )

pub edit_rows-requires-clause-short : goal.edit_rows-requires-clause-short
edit_rows-requires-clause-short g c =
    subst (λ x. length x < 2 ^ 32) (sym c.as_str.ensures) c.requires.short

pub invariant_of-self : goal.invariant_of-self
invariant_of-self g c =
    still_held g.K.KeepGoals.choice g.met.K.KeepGoals.is_rule g.K.KeepGoals.knows g.K.KeepGoals.alike
    g.met.K.KeepGoals.stays c.self.inside.text c.self.inside.source_type c.self.inside.open c.edit_rows.new.open
    c.self.inside.entries c.edit_rows.new.entries c.edit_rows.ensures.more c.in_err-change.ensures.err c.self.invariant

pub returns-in_err-change-clause-err : goal.returns-in_err-change-clause-err
returns-in_err-change-clause-err g c =
    on_err c.from_residual.result
    (ap (λ es. document_of c.self.inside.text c.self.inside.source_type (rows_of es) c.self.inside.change)
    c.in_err-change.ensures.err.entries
    ∙ c.self.view_is)

pub invariant_of-self-2 : goal.invariant_of-self-2
invariant_of-self-2 g c =
    let after = c.edit_rows.new.entries in
    subst
    (λ x. IsHeld g.K.KeepGoals.choice g.K.KeepGoals.knows x c.self.inside.source_type c.edit_rows.new.open (entries_of after)
    after.pad) c.as_str.ensures c.in_ok-change.ensures.held

pub returns-clause-ok : goal.returns-clause-ok
returns-clause-ok g c =
    let edit = c.args.edit.now in
    let old = c.self.inside in
    let rows = rows_of (entries_of c.edit_rows.new.entries) in
    let edits = c.in_ok-change.ensures.edits old.text old.change
    (record {
      held = c.self.invariant;
      edit = subst (λ (d : DocState). IsEdit d.text edit.start edit.end) (sym c.self.view_is) c.requires.edit;
      text_is =
          c.as_str.ensures ∙ c.requires.text
          ∙ sym (ap (λ (d : DocState). edited d.text edit.start edit.end edit.text.now) c.self.view_is);
    }) in
    subst
    (λ (d : DocState). Edits g.K.KeepGoals.choice g.K.KeepGoals.alike d edit.start edit.end edit.text.now c.args.steps.now
    c.edit_rows.new.steps (document_of c.args.text old.source_type rows c.in_ok-change.change)) c.self.view_is
    (subst
    (λ x. Edits g.K.KeepGoals.choice g.K.KeepGoals.alike
    (document_of old.text old.source_type (rows_of (entries_of old.entries)) old.change) edit.start edit.end edit.text.now
    c.args.steps.now c.edit_rows.new.steps (document_of x old.source_type rows c.in_ok-change.change)) c.as_str.ensures
    edits)
