use Rattle.std.proofs.Common.{◌∙◌, ap, List}
use Rattle.js_jsx.specs.declared.scope.Scope.{Scope}
use Rattle.js_jsx.specs.States.{State, behind, is_plain}
use Rattle.js_jsx.proofs.CodeLemmas.{behind_right_curly}
use Rattle.js_jsx.proofs.kept.KeptState.pass_right_curly.Goals as goal

pub returns-clause-ok : goal.returns-clause-ok
returns-clause-ok c =
    let old = c.self.inside in
    let token = c.args.token.now in
    let state : State =
    record { scopes = old.scopes; place = old.place; has_ended = old.has_ended; before = old.before.kind } in
    ap (λ (scopes : List Scope). record state { scopes = scopes; before = token.kind }) c.close.ensures
    ∙ behind_right_curly state token (ap is_plain c.self.view_is ∙ c.requires.plain) c.requires.class
    ∙ ap (λ (s : State). behind s token) c.self.view_is
