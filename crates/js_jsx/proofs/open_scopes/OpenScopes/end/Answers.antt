use Rattle.std.proofs.Common.{sym, ◌∙◌, ap, drop, subst}
use Rattle.std.proofs.lemmas.List.{drop-map}
use Rattle.js_jsx.specs.Stack.{IsCounted, scopes_of}
use Rattle.js_jsx.proofs.ScopeLemmas.{counted_less}
use Rattle.js_jsx.proofs.open_scopes.OpenScopes.end.Goals as goal

pub invariant_of-self : goal.invariant_of-self
invariant_of-self c =
    subst IsCounted (sym c.end.ensures) (counted_less c.args.count c.self.inside.stack c.self.invariant)

pub returns : goal.returns
returns c =
    ap scopes_of c.end.ensures
    ∙ sym (drop-map (λ item. item.scope) c.args.count c.self.inside.stack)
    ∙ ap (drop c.args.count) c.self.view_is
