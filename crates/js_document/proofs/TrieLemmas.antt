-- What links lead to.
use Rattle.std.proofs.Common.{◌≡◌, ℕ, suc, ◌≤◌, List, [], ◌∷◌, ◌++◌, length, refl, sym, ◌∙◌, ap, subst, arith}
use Rattle.std.proofs.Common.{append_assoc, append-nil, Some, None}
use Rattle.std.specs.Prelude.{slice_get}
use Rattle.std.proofs.lemmas.Option.{slice_get_within}
use Rattle.js_document.specs.declared.open.Node.{Node}
use Rattle.js_document.specs.AutoLaws.{open_stays}
use Rattle.js_document.specs.Trie.{HasMore, IsChild, IsOpen, IsTable, LeadsTo, node_of, place_of}

same_suc : (m n : ℕ) → suc m ≡ suc n → m ≡ n
same_suc m n e = omega (arith, e)

same_some : {A : Type 0} (a b : A) → Some a ≡ Some b → a ≡ b
same_some a b e = cc

-- the same nodes
pub none_more : (nodes : List Node) → HasMore nodes nodes
none_more nodes = record { more = []; new_is = sym (append-nil nodes) }

-- more nodes than there were, and more still
pub more_still : (old nodes new : List Node) → HasMore old nodes → HasMore nodes new → HasMore old new
more_still old nodes new more grown = record {
  more = more.more ++ grown.more;
  new_is = grown.new_is ∙ ap (λ ns. ns ++ grown.more) more.new_is ∙ append_assoc old more.more grown.more;
}

-- a link leads to one node
same_node : (nodes : List Node) (link a b : ℕ) (x : LeadsTo nodes link a) (y : LeadsTo nodes link b) → x.node ≡ y.node
same_node nodes link a b x y =
    let number : x.number ≡ y.number = same_suc x.number y.number (sym x.link_is ∙ y.link_is) in
    same_some x.node y.node (sym x.node_is ∙ ap (slice_get nodes) number ∙ y.node_is)

-- and so to the same scopes
pub same_scopes : (nodes : List Node) (link : ℕ) (scopes others : List ℕ) → IsOpen nodes link scopes
    → IsOpen nodes link others → scopes ≡ others
same_scopes nodes link [] [] x y = refl
same_scopes nodes link [] (o ∷ others) x y =
    absurd (let none = x in let some = y.0.link_is in omega (arith, none, some))
same_scopes nodes link (s ∷ scopes) [] x y =
    absurd (let none = y in let some = x.0.link_is in omega (arith, none, some))
same_scopes nodes link (s ∷ scopes) (o ∷ others) x y =
    let node = same_node nodes link s o x.0 y.0 in
    let scope : s ≡ o = sym x.0.scope_is ∙ ap (λ (n : Node). n.scope) node ∙ y.0.scope_is in
    let more : scopes ≡ others =
    same_scopes nodes y.0.node.parent scopes others
    (subst (λ (n : Node). IsOpen nodes n.parent scopes) node x.1) y.1 in
    ap (λ l. l ∷ scopes) scope ∙ ap (λ l. o ∷ l) more

-- the node of a link
pub node_there : (nodes : List Node) (link scope : ℕ) (x : LeadsTo nodes link scope) → node_of nodes link ≡ Some x.node
node_there nodes link scope x = ap (node_of nodes) x.link_is ∙ x.node_is

-- A table has one node for a parent and a scope.
same_number : (nodes : List Node) (children : List ℕ) → IsTable nodes children → (m n : ℕ) (x y : Node)
    → slice_get nodes m ≡ Some x → slice_get nodes n ≡ Some y → x.parent ≡ y.parent → x.scope ≡ y.scope → m ≡ n
same_number nodes children table m n x y at_m at_n parent scope =
    let held_m = table.held m x at_m in
    let held_n = table.held n y at_n in
    let place : place_of x.parent x.scope ≡ place_of y.parent y.scope =
    ap (λ p. place_of p x.scope) parent ∙ ap (place_of y.parent) scope in
    same_suc m n
    (same_some (suc m) (suc n) (sym held_m.place ∙ ap (slice_get children) place ∙ held_n.place))

-- So the same scopes have the same link.
pub same_links : (nodes : List Node) (children : List ℕ) → IsTable nodes children → (scopes : List ℕ) (link other : ℕ)
    → IsOpen nodes link scopes → IsOpen nodes other scopes → link ≡ other
same_links nodes children table [] link other x y = x ∙ sym y
same_links nodes children table (s ∷ scopes) link other x y =
    let parent : x.0.node.parent ≡ y.0.node.parent =
    same_links nodes children table scopes x.0.node.parent y.0.node.parent x.1 y.1 in
    let number = same_number nodes children table x.0.number y.0.number x.0.node y.0.node x.0.node_is y.0.node_is
    parent (x.0.scope_is ∙ sym y.0.scope_is) in
    x.0.link_is ∙ ap suc number ∙ sym y.0.link_is

-- a link leads to no more than the last node
pub link_inside : (nodes : List Node) (link : ℕ) (scopes : List ℕ) → IsOpen nodes link scopes → link ≤ length nodes
link_inside nodes link [] x = let none = x in omega (arith, none)
link_inside nodes link (s ∷ scopes) x =
    let within = slice_get_within nodes x.0.number x.0.node x.0.node_is in
    let is = x.0.link_is in
    omega (arith, within, is)

-- a node more
pub opens : (nodes : List Node) (node : Node) (scopes : List ℕ) → IsOpen nodes node.parent scopes
    → slice_get (nodes ++ node ∷ []) (length nodes) ≡ Some node
    → IsOpen (nodes ++ node ∷ []) (suc (length nodes)) (node.scope ∷ scopes)
opens nodes node scopes x there = (
  record { number = length nodes; node = node; link_is = refl; node_is = there; scope_is = refl },
  open_stays nodes (nodes ++ node ∷ []) node.parent scopes (record { more = node ∷ []; new_is = refl }) x,
)

-- a child that is held
pub opens_child : (nodes : List Node) (link scope child : ℕ) (scopes : List ℕ) → IsChild nodes link scope child
    → IsOpen nodes link scopes → IsOpen nodes (suc child) (scope ∷ scopes)
opens_child nodes link scope child scopes c x = (
  record { number = child; node = c.node; link_is = refl; node_is = c.node_is; scope_is = c.scope_is },
  subst (λ l. IsOpen nodes l scopes) (sym c.parent_is) x,
)

-- the scope that was opened last
pub some_scope : (nodes : List Node) (link : ℕ) (node : Node) (scopes : List ℕ) → node_of nodes link ≡ Some node
    → IsOpen nodes link scopes → Some node.scope ≡ slice_get scopes 0
some_scope nodes link node [] is x = absurd (let no : None ≡ Some node = sym (ap (node_of nodes) x) ∙ is in cc)
some_scope nodes link node (s ∷ scopes) is x =
    let same : node ≡ x.0.node = same_some node x.0.node (sym is ∙ node_there nodes link s x.0) in
    ap Some (ap (λ (n : Node). n.scope) same ∙ x.0.scope_is)

pub none_scope : (nodes : List Node) (link : ℕ) (scopes : List ℕ) → node_of nodes link ≡ None
    → IsOpen nodes link scopes → None ≡ slice_get scopes 0
none_scope nodes link [] is x = refl
none_scope nodes link (s ∷ scopes) is x =
    absurd (let no : None ≡ Some x.0.node = sym is ∙ node_there nodes link s x.0 in cc)
