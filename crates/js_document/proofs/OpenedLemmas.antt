-- What is open where a link leads to, as its nodes tell it.
use Rattle.std.proofs.Common.{◌≡◌, ℕ, zero, suc, ◌+◌, ◌-◌, ◌<◌, ◌≤◌, true, false, List, [], ◌∷◌, ◌++◌, length, drop}
use Rattle.std.proofs.Common.{refl, sym, ◌∙◌, ap, arith, Option, Some, None}
use Rattle.std.specs.Prelude.{slice_get, if◌then◌else◌}
use Rattle.js_document.specs.declared.open.Node.{Node}
use Rattle.js_document.specs.Trie.{IsOpen, IsTable, brace_with, is_brace, last_brace, node_of, opened, opened_by}
use Rattle.js_document.specs.Trie.{opened_with, told_brace}
use Rattle.js_document.proofs.ListLemmas.{get_left}
use Rattle.js_document.proofs.TrieLemmas.{node_there}

-- all but some scopes, and one more
pub drop_one_more : {X : Type 0} (n : ℕ) (xs : List X) → drop 1 (drop n xs) ≡ drop (suc n) xs
drop_one_more zero xs = refl
drop_one_more (suc n) [] = refl
drop_one_more (suc n) (x ∷ xs) = drop_one_more n xs

pub drop_next : {X : Type 0} (n : ℕ) (xs : List X) → drop 1 (drop n xs) ≡ drop (n + 1) xs
drop_next n xs = drop_one_more n xs ∙ ap (λ m. drop m xs) (let next : suc n ≡ n + 1 = omega arith in next)

-- where so many are left of a count, one is closed
pub one_closed : {X : Type 0} (count left : ℕ) (xs : List X) → 0 < left → left ≤ count
    → drop 1 (drop (count - left) xs) ≡ drop (count - (left - 1)) xs
one_closed count left xs some few =
    drop_one_more (count - left) xs
    ∙ ap (λ n. drop n xs) (let next : suc (count - left) ≡ count - (left - 1) = omega (arith, some, few) in next)

-- nothing is open where a link leads nowhere
pub opened_none : (nodes : List Node) (link : ℕ) → node_of nodes link ≡ None → opened nodes link ≡ []
opened_none nodes zero is = refl
opened_none nodes (suc number) is = ap (opened_with (opened_by number nodes)) is

-- the scope that was opened last
pub last_scope : (nodes : List Node) (link : ℕ) (node : Node) → node_of nodes link ≡ Some node
    → Some node.scope ≡ slice_get (opened nodes link) 0
last_scope nodes zero node is = absurd (cc)
last_scope nodes (suc number) node is =
    sym (ap (λ o. slice_get (opened_with (opened_by number nodes) o) 0) is)

pub no_scope : (nodes : List Node) (link : ℕ) → node_of nodes link ≡ None → None ≡ slice_get (opened nodes link) 0
no_scope nodes link is = sym (ap (λ scopes. slice_get scopes 0) (opened_none nodes link is))

-- no more are open than there may be
pub few_opened : (most : ℕ) (nodes : List Node) (link : ℕ) → length (opened_by most nodes link) ≤ most
few_opened zero nodes link = omega arith
few_opened (suc most) nodes link = by_node (node_of nodes link) (few_opened most nodes)
  where
    by_node : (o : Option Node) → ((below : ℕ) → length (opened_by most nodes below) ≤ most)
        → length (opened_with (opened_by most nodes) o) ≤ suc most
    by_node None rest = omega arith
    by_node (Some node) rest = let few_below = rest node.parent in omega (arith, few_below)

none_by : (most : ℕ) (nodes : List Node) → opened_by most nodes 0 ≡ []
none_by zero nodes = refl
none_by (suc most) nodes = refl

module _ (nodes : List Node) (children : List ℕ) (table : IsTable nodes children) where
  -- Each node stands behind its parent. So as many steps as the number of the link are enough.
  pub same_opened : (most other link : ℕ) → link ≤ most → link ≤ other
      → opened_by most nodes link ≡ opened_by other nodes link
  same_opened most other zero few few_other = none_by most nodes ∙ sym (none_by other nodes)
  same_opened zero other (suc number) few few_other = absurd (omega (arith, few))
  same_opened (suc most) zero (suc number) few few_other = absurd (omega (arith, few_other))
  same_opened (suc most) (suc other) (suc number) few few_other =
      by_node (slice_get nodes number) refl (same_opened most other)
    where
      by_node : (o : Option Node) → slice_get nodes number ≡ o
          → ((link : ℕ) → link ≤ most → link ≤ other → opened_by most nodes link ≡ opened_by other nodes link)
          → opened_with (opened_by most nodes) o ≡ opened_with (opened_by other nodes) o
      by_node None is rest = refl
      by_node (Some node) is rest =
          let before = (table.held number node is).before in
          ap (λ l. node.scope ∷ l) (rest node.parent (omega (arith, before, few)) (omega (arith, before, few_other)))

  -- what is open below a node
  pub opened_below : (link : ℕ) (node : Node) → node_of nodes link ≡ Some node
      → opened nodes node.parent ≡ drop 1 (opened nodes link)
  opened_below zero node is = absurd (cc)
  opened_below (suc number) node is =
      same_opened node.parent number node.parent (omega arith) (table.held number node is).before
      ∙ sym (ap (λ o. drop 1 (opened_with (opened_by number nodes) o)) is)

  -- what is open is what the link tells
  pub opened_is : (most link : ℕ) (scopes : List ℕ) → link ≤ most → IsOpen nodes link scopes
      → opened_by most nodes link ≡ scopes
  opened_is most link [] few x = ap (opened_by most nodes) x ∙ none_by most nodes
  opened_is zero link (s ∷ scopes) few x = absurd (let is = x.0.link_is in omega (arith, is, few))
  opened_is (suc most) link (s ∷ scopes) few x =
      let node = x.0.node in
      let before = (table.held x.0.number node x.0.node_is).before in
      let is = x.0.link_is in
      ap (opened_with (opened_by most nodes)) (node_there nodes link s x.0)
      ∙ ap (λ l. node.scope ∷ l) (opened_is most node.parent scopes (omega (arith, before, is, few)) x.1)
      ∙ ap (λ n. n ∷ scopes) x.0.scope_is

  -- the last open brace is the one that the node tells
  pub brace_told : (most link : ℕ) → link ≤ most → told_brace (node_of nodes link) ≡ last_brace (opened_by most nodes link)
  brace_told most zero few = sym (ap last_brace (none_by most nodes))
  brace_told zero (suc number) few = absurd (omega (arith, few))
  brace_told (suc most) (suc number) few = by_node (slice_get nodes number) refl (brace_told most)
    where
      by_node : (o : Option Node) → slice_get nodes number ≡ o
          → ((link : ℕ) → link ≤ most → told_brace (node_of nodes link) ≡ last_brace (opened_by most nodes link))
          → told_brace o ≡ last_brace (opened_with (opened_by most nodes) o)
      by_node None is rest = refl
      by_node (Some node) is rest =
          let before = (table.held number node is).before in
          table.braces number node is
          ∙ ap (λ b. if is_brace node.scope then Some node.scope else b)
          (rest node.parent (omega (arith, before, few)))

-- the node of a link among more of them
pub still_node : (nodes more : List Node) (link : ℕ) → link ≤ length nodes → node_of (nodes ++ more) link ≡ node_of nodes link
still_node nodes more zero within = refl
still_node nodes more (suc number) within = get_left nodes more number (omega (arith, within))

-- and the brace that a node below it is to tell
pub still_brace : (nodes more : List Node) (link scope : ℕ) → link ≤ length nodes
    → brace_with (nodes ++ more) link scope ≡ brace_with nodes link scope
still_brace nodes more link scope within =
    ap (λ o. if is_brace scope then Some scope else told_brace o) (still_node nodes more link within)

-- what is told of a node that may be none
pub told_none : (nodes : List Node) (link : ℕ) → node_of nodes link ≡ None → None ≡ told_brace (node_of nodes link)
told_none nodes link is = sym (ap told_brace is)

pub told_some : (nodes : List Node) (link : ℕ) (node : Node) → node_of nodes link ≡ Some node
    → node.brace ≡ told_brace (node_of nodes link)
told_some nodes link node is = sym (ap told_brace is)

-- what a node is to tell
pub is_first_brace : (nodes : List Node) (link scope : ℕ) → is_brace scope ≡ true → Some scope ≡ brace_with nodes link scope
is_first_brace nodes link scope is =
    sym (ap (λ b. if b then Some scope else told_brace (node_of nodes link)) is)

pub brace_below : (nodes : List Node) (link scope : ℕ) (o : Option ℕ) → is_brace scope ≡ false
    → o ≡ told_brace (node_of nodes link) → o ≡ brace_with nodes link scope
brace_below nodes link scope o is told =
    told ∙ sym (ap (λ b. if b then Some scope else told_brace (node_of nodes link)) is)
