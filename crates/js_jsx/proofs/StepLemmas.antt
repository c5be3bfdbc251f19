-- What a token changes of what is kept, part by part.
use Rattle.std.proofs.Common.{◌≡◌, Bool, ◌||◌, List, sym, ◌∙◌, ap}
use Rattle.js_kind.specs.TokenParts.{TokenParts}
use Rattle.js_jsx.specs.declared.change.Change.{Change}
use Rattle.js_jsx.specs.declared.change.TagPlace.{TagPlace}
use Rattle.js_jsx.specs.declared.class.TokenClass.{TokenClass}
use Rattle.js_jsx.specs.declared.scope.Scope.{Scope}
use Rattle.js_jsx.specs.Changes.{changed, ends_element, place_behind}
use Rattle.js_jsx.specs.Classes.{class_of}
use Rattle.js_jsx.specs.Scopes.{is_tag, passes, top}
use Rattle.js_jsx.specs.States.{State, behind, change_of, keeps_operand}

-- what is kept, by its parts
abbrev kept : TokenParts → List Scope → TagPlace → Bool → State
kept token scopes place ended =
    record { scopes = scopes; place = place; has_ended = ended; before = token.kind }

-- the same behind a token of a class with a change
abbrev kept_by : State → TokenParts → TokenClass → Change → State
kept_by state token class change =
    kept token (changed change class state.scopes)
    (place_behind (passes is_tag (top state.scopes)) state.place class change)
    (ends_element change || keeps_operand state token)

pub step_is : (state : State) (token : TokenParts) (class : TokenClass) (change : Change) (scopes : List Scope)
    (place : TagPlace) (ended : Bool) → class_of token.kind ≡ class → change ≡ change_of state class
    → scopes ≡ changed change class state.scopes
    → place ≡ place_behind (passes is_tag (top state.scopes)) state.place class change
    → ended ≡ (ends_element change || keeps_operand state token)
    → kept token scopes place ended ≡ behind state token
step_is state token class change scopes place ended class_is change_is scopes_are place_is ended_is =
    ap (λ l. kept token l place ended) scopes_are
    ∙ ap (λ p. kept token (changed change class state.scopes) p ended) place_is
    ∙ ap
    (kept token (changed change class state.scopes)
    (place_behind (passes is_tag (top state.scopes)) state.place class change))
    ended_is
    ∙ ap (kept_by state token class) change_is
    ∙ ap (λ k. kept_by state token k (change_of state k)) (sym class_is)
