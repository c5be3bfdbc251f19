-- Stacks of what is open, the one that was opened last first.
use Rattle.std.specs.Prelude.{◌≡◌, List, [], ◌∷◌, map}
use Rattle.js_jsx.specs.declared.scope.Scope.{Scope}
use Rattle.js_jsx.specs.declared.stack.Open.{Open}
use Rattle.js_jsx.specs.Scopes.{braced_below}

-- the scopes of a stack
abbrev pub scopes_of : List Open → List Scope
scopes_of stack = map (λ item. item.scope) stack

-- the stack with another one in the place of the one that was opened last
abbrev pub with_top : {T : Type 0} → List T → T → List T
with_top [] item = []
with_top (other ∷ stack) item = item ∷ stack

-- Each knows how many there are from the last open brace below it on.
abbrev pub IsCounted : List Open → Type 0
IsCounted stack = map (λ item. item.braced) stack ≡ braced_below (scopes_of stack)
