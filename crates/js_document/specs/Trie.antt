-- What may be open, as nodes with links.
use Rattle.std.specs.Prelude.{◌≡◌, ℕ, zero, suc, ◌+◌, ◌*◌, ◌<◌, ◌≤◌, List, [], ◌∷◌, ◌++◌, length, Option, Some, None}
use Rattle.std.specs.Prelude.{Bool, true, false, ◌==◌, slice_get, if◌then◌else◌}
use Rattle.js_document.specs.declared.open.Node.{Node}

-- The link leads to a node, which has this scope.
pub record LeadsTo (nodes : List Node) (link scope : ℕ) : Type 0 where
  pub number : ℕ
  pub node : Node
  pub link_is : link ≡ suc number
  pub node_is : slice_get nodes number ≡ Some node
  pub scope_is : node.scope ≡ scope

-- Where the link leads to, these scopes are open, the one that was opened last first.
abbrev pub IsOpen : List Node → ℕ → List ℕ → Type 0
IsOpen nodes link [] = link ≡ 0
IsOpen nodes link (scope ∷ scopes) = (leads : LeadsTo nodes link scope) × IsOpen nodes leads.node.parent scopes

-- the node of a link, if anything is open
abbrev pub node_of : List Node → ℕ → Option Node
node_of nodes zero = None
node_of nodes (suc number) = slice_get nodes number

-- the scopes of a node and of those below it
abbrev pub opened_with : (ℕ → List ℕ) → Option Node → List ℕ
opened_with below None = []
opened_with below (Some node) = node.scope ∷ below node.parent

-- the scopes that are open where the link leads to, so many at most
abbrev pub opened_by : ℕ → List Node → ℕ → List ℕ
opened_by zero nodes link = []
opened_by (suc most) nodes link = opened_with (opened_by most nodes) (node_of nodes link)

-- The scopes that are open where the link leads to, the one that was opened last first: no more than the number of the
-- link, since each node stands behind its parent. None are open where it leads nowhere.
abbrev pub opened : List Node → ℕ → List ℕ
opened nodes link = opened_by link nodes link

-- a brace opens the first three of the scopes
abbrev pub is_brace : ℕ → Bool
is_brace scope = if scope == 0 then true else if scope == 1 then true else if scope == 2 then true else false

-- the last open brace, if one is open
abbrev pub last_brace : List ℕ → Option ℕ
last_brace [] = None
last_brace (scope ∷ scopes) = if is_brace scope then Some scope else last_brace scopes

-- the last open brace that a node tells, if there is one
abbrev pub told_brace : Option Node → Option ℕ
told_brace None = None
told_brace (Some node) = node.brace

-- the one that a node of the scope below this link is to tell
abbrev pub brace_with : List Node → ℕ → ℕ → Option ℕ
brace_with nodes link scope = if is_brace scope then Some scope else told_brace (node_of nodes link)

-- The new nodes are the old ones, and perhaps more behind them.
pub record HasMore (old new : List Node) : Type 0 where
  pub more : List Node
  pub new_is : new ≡ old ++ more

-- a child of these is held: the link of the node with this parent and this scope
pub record IsChild (nodes : List Node) (link scope child : ℕ) : Type 0 where
  pub node : Node
  pub node_is : slice_get nodes child ≡ Some node
  pub parent_is : node.parent ≡ link
  pub scope_is : node.scope ≡ scope

-- the children of a link have eight places, one for each scope
abbrev pub place_of : ℕ → ℕ → ℕ
place_of link scope = link * 8 + scope

-- a node stands at its place among the children of its parent, which comes before it
pub record IsHeld (children : List ℕ) (number : ℕ) (node : Node) : Type 0 where
  pub before : node.parent ≤ number
  pub few : node.scope < 8
  pub place : slice_get children (place_of node.parent node.scope) ≡ Some (suc number)

-- The table tells each node by its parent and its scope. So there is one node for these.
pub record IsTable (nodes : List Node) (children : List ℕ) : Type 0 where
  pub room : place_of (suc (length nodes)) 0 ≤ length children
  pub told : (link scope child : ℕ) → scope < 8
      → slice_get children (place_of link scope) ≡ Some (suc child) → IsChild nodes link scope child
  pub held : (number : ℕ) (node : Node) → slice_get nodes number ≡ Some node → IsHeld children number node
  pub braces : (number : ℕ) (node : Node) → slice_get nodes number ≡ Some node
      → node.brace ≡ brace_with nodes node.parent node.scope
