use Rattle.std.proofs.Common.{◌∙◌, ap, map}
use Rattle.js_document.specs.JsxStates.{with_scopes}
use Rattle.js_document.specs.LinkedScopes.{scope_number, scope_numbered}
use Rattle.js_document.proofs.JsxLemmas.{all_numbered_back}
use Rattle.js_document.proofs.jsx_state.JsxState.view.Goals as goal

pub returns : goal.returns
returns c scopes is =
    ap (with_scopes c.args.self)
    (c.new.ensures ∙ ap (map scope_numbered) (c.is_told.ensures (map scope_number scopes) is)
    ∙ all_numbered_back scopes)
