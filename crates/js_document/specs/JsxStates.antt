-- What the rule of js_jsx knows behind tokens.
use Rattle.std.specs.Prelude.{◌≡◌, List, map, Option, None, option_map}
use Rattle.std.specs.List.{last_or}
use Rattle.js_kind.specs.TokenParts.{TokenParts}
use Rattle.js_choose.specs.LastTokens.{but_last}
use Rattle.js_jsx.specs.States.{State, state_of}
use Rattle.js_jsx.specs.declared.scope.Scope.{Scope}
use Rattle.js_relex.specs.Joined.{at_start}
use Rattle.js_document.specs.declared.jsx_state.JsxState.{JsxState}
use Rattle.js_document.specs.declared.open.Node.{Node}
use Rattle.js_document.specs.LinkedScopes.{scope_number}
use Rattle.js_document.specs.Trie.{IsOpen}

-- what is kept, where these scopes are open
abbrev pub with_scopes : JsxState → List Scope → State
with_scopes kept scopes = record {
  scopes = scopes;
  place = kept.place;
  has_ended = kept.has_ended;
  before = kept.before;
}

-- The same is kept beside the scopes.
pub record SameBeside (kept other : JsxState) : Type 0 where
  pub place : kept.place ≡ other.place
  pub has_ended : kept.has_ended ≡ other.has_ended
  pub before : kept.before ≡ other.before

-- What is kept is what the rule keeps of the tokens before the last one, and its link leads to the scopes of that.
pub record KnowsJsx (nodes : List Node) (kept : JsxState) (tokens : List TokenParts) : Type 0 where
  pub scopes : List Scope
  pub opened : IsOpen nodes kept.link (map scope_number scopes)
  pub state_is : with_scopes kept scopes ≡ state_of (but_last tokens)

-- the last of the tokens, if there is one, wherever it stands
abbrev pub last_start : List TokenParts → Option TokenParts
last_start tokens = option_map at_start (last_or None tokens)

-- The same is kept of the tokens before the last one, and the last ones differ in nothing but where they stand.
pub record SameJsx (tokens others : List TokenParts) : Type 0 where
  pub state_is : state_of (but_last tokens) ≡ state_of (but_last others)
  pub last_is : last_start tokens ≡ last_start others
