use Rattle.std.proofs.Common.{◌≡◌, subst}
use Rattle.js_jsx.specs.States.{State, behind}
use Rattle.js_jsx.specs.Steps.{after_step}
use Rattle.js_document.proofs.jsx_state.JsxState.step.Goals as goal

pub returns : goal.returns
returns c scopes is =
    subst (λ (s : State). after_step s c.step.result c.args.token.now.kind ≡ behind s c.args.token.now)
    (c.view.ensures scopes is) c.step.ensures
