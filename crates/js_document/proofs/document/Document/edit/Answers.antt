use Rattle.std.proofs.Common.{◌<◌, ◌∙◌, ap, arith, inr, length, subst, sym, Err, Ok}
use Rattle.std.specs.Prelude.{◌^◌}
use Rattle.js_relex.specs.Documents.{IsEdit, edited}
use Rattle.js_document.specs.Documents.{DocState, EditCause}
use Rattle.js_document.specs.declared.fault.DocumentFault.TheVariants.{BadEdit, Overlong}
use Rattle.js_document.proofs.Causes.{MayEdit, exact_of, no_edit_cause, one_edit_cause}
use Rattle.js_document.proofs.document.Document.edit.Goals as goal

pub returns-then-not-is_of-clause-cause : goal.returns-then-not-is_of-clause-cause
returns-then-not-is_of-clause-cause g c =
    let edit = c.args.edit.now in
    let text = c.as_str.ensures ∙ ap (λ (d : DocState). d.text) c.self.view_is in
    inr
    (λ is.
    let yes = c.is_of.ensures.1 (subst (λ x. IsEdit x edit.start edit.end) (sym text) is) in
    let no = c.if-not-is_of.true in
    absurd (cc))

pub returns-then-not-is_of-clause-exact : goal.returns-then-not-is_of-clause-exact
returns-then-not-is_of-clause-exact g c =
    let edit = c.args.edit.now in
    let old = c.args.self.now.text in
    let text = c.as_str.ensures ∙ ap (λ (d : DocState). d.text) c.self.view_is in
    exact_of (EditCause old edit.start edit.end edit.text.now) (one_edit_cause old edit.start edit.end edit.text.now)
    (MayEdit old edit.start edit.end edit.text.now) (no_edit_cause old edit.start edit.end edit.text.now) (Err BadEdit)
    (inr
    (λ is.
    let yes = c.is_of.ensures.1 (subst (λ x. IsEdit x edit.start edit.end) (sym text) is) in
    let no = c.if-not-is_of.true in
    absurd (cc))) tt

pub returns-then-not-is_of-clause-complete : goal.returns-then-not-is_of-clause-complete
returns-then-not-is_of-clause-complete g c = λ is short.
    let edit = c.args.edit.now in
    let text = c.as_str.ensures ∙ ap (λ (d : DocState). d.text) c.self.view_is in
    let yes = c.is_of.ensures.1 (subst (λ x. IsEdit x edit.start edit.end) (sym text) is) in
    let no = c.if-not-is_of.true in
    absurd (cc)

pub stays_short-requires : goal.stays_short-requires
stays_short-requires g c =
    let edit = c.args.edit.now in
    subst (λ x. IsEdit x edit.start edit.end) (c.as_str.ensures ∙ sym c.as_str-2.ensures)
    (c.is_of.ensures.0 (let yes = c.if-not-is_of.false in cc))

pub returns-then-not-stays_short-clause-cause : goal.returns-then-not-stays_short-clause-cause
returns-then-not-stays_short-clause-cause g c =
    let edit = c.args.edit.now in
    let first = c.as_str.ensures ∙ ap (λ (d : DocState). d.text) c.self.view_is in
    let text = c.as_str-2.ensures ∙ ap (λ (d : DocState). d.text) c.self.view_is in
    let is = subst (λ x. IsEdit x edit.start edit.end) first (c.is_of.ensures.0 (let yes = c.if-not-is_of.false in cc)) in
    let long : length (edited c.args.self.now.text edit.start edit.end edit.text.now) < 2 ^ 32 → ⊥ =
    λ short.
    (let yes =
    c.stays_short.ensures.1
    (subst (λ x. length (edited x edit.start edit.end edit.text.now) < 2 ^ 32) (sym text) short) in
    let no = c.if-not-stays_short.true in
    absurd (cc)) in
    inr (is, omega (arith, long))

pub returns-then-not-stays_short-clause-exact : goal.returns-then-not-stays_short-clause-exact
returns-then-not-stays_short-clause-exact g c =
    let edit = c.args.edit.now in
    let old = c.args.self.now.text in
    let first = c.as_str.ensures ∙ ap (λ (d : DocState). d.text) c.self.view_is in
    let text = c.as_str-2.ensures ∙ ap (λ (d : DocState). d.text) c.self.view_is in
    let is = subst (λ x. IsEdit x edit.start edit.end) first (c.is_of.ensures.0 (let yes = c.if-not-is_of.false in cc)) in
    let long : length (edited c.args.self.now.text edit.start edit.end edit.text.now) < 2 ^ 32 → ⊥ =
    λ short.
    (let yes =
    c.stays_short.ensures.1
    (subst (λ x. length (edited x edit.start edit.end edit.text.now) < 2 ^ 32) (sym text) short) in
    let no = c.if-not-stays_short.true in
    absurd (cc)) in
    exact_of (EditCause old edit.start edit.end edit.text.now) (one_edit_cause old edit.start edit.end edit.text.now)
    (MayEdit old edit.start edit.end edit.text.now) (no_edit_cause old edit.start edit.end edit.text.now) (Err Overlong)
    (inr (is, omega (arith, long))) tt

pub returns-then-not-stays_short-clause-complete : goal.returns-then-not-stays_short-clause-complete
returns-then-not-stays_short-clause-complete g c = λ is short.
    let edit = c.args.edit.now in
    let text = c.as_str-2.ensures ∙ ap (λ (d : DocState). d.text) c.self.view_is in
    let yes =
    c.stays_short.ensures.1
    (subst (λ x. length (edited x edit.start edit.end edit.text.now) < 2 ^ 32) (sym text) short) in
    let no = c.if-not-stays_short.true in
    absurd (cc)

pub made_in-requires : goal.made_in-requires
made_in-requires g c =
    let edit = c.args.edit.now in
    subst (λ x. IsEdit x edit.start edit.end) (c.as_str.ensures ∙ sym c.as_str-3.ensures)
    (c.is_of.ensures.0 (let yes = c.if-not-is_of.false in cc))

pub take_edited-requires-clause-edit : goal.take_edited-requires-clause-edit
take_edited-requires-clause-edit g c =
    let edit = c.args.edit.now in
    let first = c.as_str.ensures ∙ ap (λ (d : DocState). d.text) c.self.view_is in
    subst (λ x. IsEdit x edit.start edit.end) first (c.is_of.ensures.0 (let yes = c.if-not-is_of.false in cc))

pub take_edited-requires-clause-text : goal.take_edited-requires-clause-text
take_edited-requires-clause-text g c =
    let edit = c.args.edit.now in
    c.in-Ok.ensures
    ∙ ap (λ x. edited x edit.start edit.end edit.text.now)
    (c.as_str-3.ensures ∙ ap (λ (d : DocState). d.text) c.self.view_is)

pub take_edited-requires-clause-short : goal.take_edited-requires-clause-short
take_edited-requires-clause-short g c =
    let edit = c.args.edit.now in
    let short = c.stays_short.ensures.0 (let yes = c.if-not-stays_short.false in cc) in
    subst (λ x. length x < 2 ^ 32)
    (sym
    (c.in-Ok.ensures
    ∙ ap (λ x. edited x edit.start edit.end edit.text.now) (c.as_str-3.ensures ∙ sym c.as_str-2.ensures))) short

pub returns-in-Ok-take_edited-clause-exact : goal.returns-in-Ok-take_edited-clause-exact
returns-in-Ok-take_edited-clause-exact g c =
    let edit = c.args.edit.now in
    let old = c.args.self.now.text in
    let first = c.as_str.ensures ∙ ap (λ (d : DocState). d.text) c.self.view_is in
    let text = c.as_str-2.ensures ∙ ap (λ (d : DocState). d.text) c.self.view_is in
    exact_of (EditCause old edit.start edit.end edit.text.now) (one_edit_cause old edit.start edit.end edit.text.now)
    (MayEdit old edit.start edit.end edit.text.now) (no_edit_cause old edit.start edit.end edit.text.now) (Ok tt) tt
    (record {
      edit =
          subst (λ x. IsEdit x edit.start edit.end) first
          (c.is_of.ensures.0 (let yes = c.if-not-is_of.false in cc));
      short =
          subst (λ x. length (edited x edit.start edit.end edit.text.now) < 2 ^ 32) text
          (c.stays_short.ensures.0 (let yes = c.if-not-stays_short.false in cc));
    })
