use Rattle.std.proofs.Common.{◌≡◌, ap, subst}
use Rattle.js_jsx.specs.Changes.{changed}
use Rattle.js_jsx.specs.States.{State}
use Rattle.js_jsx.specs.Steps.{scopes_after}
use Rattle.js_jsx.proofs.StepLemmas.{step_is}
use Rattle.js_jsx.proofs.state.StateView.step_of.Goals as goal

pub returns : goal.returns
returns g c =
    let state = c.args.self.now in
    let change = c.change-change.result in
    let scopes = c.scopes_change.result in
    step_is state c.args.token.now c.args.class change (scopes_after scopes state.scopes) c.place_behind.result
    c.has_ended_behind.result c.requires c.change-change.ensures
    (subst (λ l. scopes_after scopes l ≡ changed change c.args.class l) (ap (λ (s : State). s.scopes) c.self.view_is)
    c.scopes_change.ensures)
    c.place_behind.ensures c.has_ended_behind.ensures
