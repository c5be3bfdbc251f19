use Rattle.std.proofs.Common.{◌≡◌, ◌∙◌, None, ap, subst}
use Rattle.std.specs.Option.{option_map}
use Rattle.js_text.specs.JsText.{js_text_units}
use Rattle.js_session.specs.Report.{IsSliceOnPlaces, text_of}
use Rattle.js_lists.specs.Taken.{value_handed}
use Rattle.js_document.specs.Documents.{DocState}
use Rattle.js_document.proofs.document.Document.text_of.Goals as goal

pub returns-clause-text : goal.returns-clause-text
returns-clause-text g c =
    let value = value_handed c.args.value in
    subst
    (λ x. IsSliceOnPlaces x value → option_map js_text_units c.text_in.result ≡ text_of x value)
    (c.as_str.ensures ∙ ap (λ (d : DocState). d.text) c.self.view_is) c.text_in.ensures.text

pub returns-clause-none : goal.returns-clause-none
returns-clause-none g c =
    let value = value_handed c.args.value in
    subst (λ x. (IsSliceOnPlaces x value → ⊥) → option_map js_text_units c.text_in.result ≡ None)
    (c.as_str.ensures ∙ ap (λ (d : DocState). d.text) c.self.view_is) c.text_in.ensures.none
