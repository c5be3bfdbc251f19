use Rattle.std.proofs.Common.{◌∙◌}
use Rattle.js_document.proofs.JsxLemmas.{jsx_known_choice}
use Rattle.js_document.proofs.jsx_state.JsxStateKeepGoals.command.Goals as goal

pub returns : goal.returns
returns c = λ tokens known is.
    c.command.ensures
    ∙ jsx_known_choice c.args.text.now c.view.result tokens c.args.last.now is
    (c.view.ensures known.scopes known.opened ∙ known.state_is)
