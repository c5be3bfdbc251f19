use Rattle.std.proofs.Common.{◌≡◌, ◌∙◌, sym, subst}
use Rattle.std.specs.Prelude.{IfOk, IfSome, string_bytes}
use Rattle.std.specs.Str.{chars}
use Rattle.std.specs.String.{IsUtf16Of}
use Rattle.js_text.specs.JsStr.{units_of}
use Rattle.js_text.proofs.JsStrLemmas.{text_found}
use Rattle.js_text.proofs.js_str.JSStr.to_text.Goals as goal

pub returns-clause-text : goal.returns-clause-text
returns-clause-text c =
    let units : c.as_slice.result.now ≡ c.args.self.now = c.as_slice.ensures ∙ c.self.view_is in
    subst (λ o. IfSome o (λ s. units_of (chars (string_bytes s)) ≡ c.args.self.now)) (sym c.ok.ensures.value)
    (text_found c.args.self.now c.in_ok-text.text
    (subst (λ us. IfOk c.in_ok-text.text (λ s. IsUtf16Of us (string_bytes s))) units c.in_ok-text.ensures.ok))
