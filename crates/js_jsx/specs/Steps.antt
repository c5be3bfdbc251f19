-- What is kept once what a token changes is carried out.
use Rattle.std.specs.Prelude.{List, ◌∷◌, drop}
use Rattle.js_kind.specs.declared.kind.Kind.{Kind}
use Rattle.js_jsx.specs.declared.scope.Scope.{Scope}
use Rattle.js_jsx.specs.declared.step.ScopesChange.{ScopesChange}
use Rattle.js_jsx.specs.declared.step.ScopesChange.TheVariants.{Opens, Becomes, Ends}
use Rattle.js_jsx.specs.declared.step.StateStep.{StateStep}
use Rattle.js_jsx.specs.States.{State}

-- the scopes that are open then
abbrev pub scopes_after : ScopesChange → List Scope → List Scope
scopes_after (Opens scope) scopes = scope ∷ scopes
scopes_after (Becomes scope) scopes = scope ∷ drop 1 scopes
scopes_after (Ends count) scopes = drop count scopes

-- what is kept behind a token of the kind
abbrev pub after_step : State → StateStep → Kind → State
after_step state step kind = record {
  scopes = scopes_after step.scopes state.scopes;
  place = step.place;
  has_ended = step.has_ended;
  before = kind;
}
