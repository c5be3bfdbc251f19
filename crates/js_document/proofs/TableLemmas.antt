-- A table of nodes with a node more.
use Rattle.std.proofs.Common.{◌≡◌, ℕ, zero, suc, ◌<◌, ◌≤◌, Bool, true, false, eqb, List, [], ◌∷◌, ◌++◌, length, replicate}
use Rattle.std.proofs.Common.{refl, sym, ◌∙◌, ap, subst, arith, length-append, Some, inl, inr}
use Rattle.std.specs.List.{AllByRecursion}
use Rattle.std.specs.Prelude.{◌⊎◌, slice_get, slice_set}
use Rattle.std.proofs.lemmas.Bool.{eqb-false, eqb-true}
use Rattle.std.proofs.lemmas.List.{length-set}
use Rattle.std.proofs.lemmas.Option.{slice_get_within}
use Rattle.js_document.specs.declared.open.Node.{Node}
use Rattle.js_document.specs.AutoLaws.{still_there}
use Rattle.js_document.specs.Trie.{IsChild, IsHeld, IsOpen, IsTable, brace_with, place_of}
use Rattle.js_document.proofs.OpenedLemmas.{still_brace}
use Rattle.js_document.proofs.TrieLemmas.{link_inside, opens_child}

-- the item that is set, and the others
set_there : {A : Type 0} (xs : List A) (index : ℕ) (x : A) → index < length xs
    → slice_get (slice_set xs index x) index ≡ Some x
set_there [] index x within = absurd (omega (arith, within))
set_there (a ∷ xs) zero x within = refl
set_there (a ∷ xs) (suc index) x within = set_there xs index x (omega (arith, within))

set_elsewhere : {A : Type 0} (xs : List A) (index other : ℕ) (x : A) → (other ≡ index → ⊥)
    → slice_get (slice_set xs index x) other ≡ slice_get xs other
set_elsewhere [] index other x apart = refl
set_elsewhere (a ∷ xs) zero zero x apart = absurd (apart refl)
set_elsewhere (a ∷ xs) zero (suc other) x apart = refl
set_elsewhere (a ∷ xs) (suc index) zero x apart = refl
set_elsewhere (a ∷ xs) (suc index) (suc other) x apart = set_elsewhere xs index other x (λ e. apart (ap suc e))

-- the item that is added behind the others
pub at_end : {A : Type 0} (xs : List A) (x : A) → slice_get (xs ++ x ∷ []) (length xs) ≡ Some x
at_end [] x = refl
at_end (a ∷ xs) x = at_end xs x

is_pushed : {A : Type 0} (xs : List A) (x : A) (index : ℕ) (y : A) → slice_get (xs ++ x ∷ []) index ≡ Some y
    → (slice_get xs index ≡ Some y) ⊎ ((index ≡ length xs) × (x ≡ y))
is_pushed [] x zero y is = inr (refl, (let same : x ≡ y = cc in same))
is_pushed [] x (suc index) y is = absurd (cc)
is_pushed (a ∷ xs) x zero y is = inl is
is_pushed (a ∷ xs) x (suc index) y is = by_place (is_pushed xs x index y is)
  where
    by_place : (slice_get xs index ≡ Some y) ⊎ ((index ≡ length xs) × (x ≡ y))
        → (slice_get xs index ≡ Some y) ⊎ ((suc index ≡ suc (length xs)) × (x ≡ y))
    by_place (inl there) = inl there
    by_place (inr last) = inr (ap suc last.0, last.1)

-- no child is told by zeros
abbrev pub AreNone : List ℕ → Type 0
AreNone more = AllByRecursion (λ (n : ℕ). n ≡ 0) more

pub zeros : (count : ℕ) → AreNone (replicate count 0)
zeros zero = tt
zeros (suc count) = (refl, zeros count)

tells_none : (more : List ℕ) (place child : ℕ) → AreNone more → slice_get more place ≡ Some (suc child) → ⊥
tells_none [] place child none is = cc
tells_none (n ∷ more) zero child none is =
    let same : n ≡ suc child = cc in
    let zero_is = none.0 in
    omega (arith, same, zero_is)
tells_none (n ∷ more) (suc place) child none is = tells_none more place child none.1 is

still_told : (children more : List ℕ) (place child : ℕ) → AreNone more
    → slice_get (children ++ more) place ≡ Some (suc child) → slice_get children place ≡ Some (suc child)
still_told [] more place child none is = absurd (tells_none more place child none is)
still_told (c ∷ children) more zero child none is = is
still_told (c ∷ children) more (suc place) child none is = still_told children more place child none is

-- a place is that of one link and one scope
same_link : (link scope other others : ℕ) → scope < 8 → others < 8 → place_of link scope ≡ place_of other others
    → link ≡ other
same_link link scope other others few few_others same = omega (arith, few, few_others, same)

same_scope : (link scope other others : ℕ) → scope < 8 → others < 8 → place_of link scope ≡ place_of other others
    → scope ≡ others
same_scope link scope other others few few_others same = omega (arith, few, few_others, same)

-- the place of a link that leads somewhere
pub place_inside : (nodes : List Node) (children : List ℕ) (link scope : ℕ) (scopes : List ℕ) → IsTable nodes children
    → scope < 8 → IsOpen nodes link scopes → place_of link scope < length children
place_inside nodes children link scope scopes table few here =
    let room = table.room in
    let inside = link_inside nodes link scopes here in
    omega (arith, room, inside, few)

-- what a child that is told opens
pub opens_told : (nodes : List Node) (children : List ℕ) (link scope child : ℕ) (scopes : List ℕ)
    → IsTable nodes children → scope < 8 → slice_get children (place_of link scope) ≡ Some child → (child ≡ 0 → ⊥)
    → IsOpen nodes link scopes → IsOpen nodes child (scope ∷ scopes)
opens_told nodes children link scope zero scopes table few is some here = absurd (some refl)
opens_told nodes children link scope (suc child) scopes table few is some here =
    opens_child nodes link scope child scopes (table.told link scope child few is) here

module _ (nodes : List Node) (children more : List ℕ) (table : IsTable nodes children) (none : AreNone more) where
  -- there is room for more children
  pub has_room : IsTable nodes (children ++ more)
  has_room = record {
    room = (let room = table.room in let all = length-append children more in omega (arith, room, all));
    told = λ link scope child few is.
        table.told link scope child few (still_told children more (place_of link scope) child none is);
    held = λ number node is.
        let held = table.held number node is in
        record {
          before = held.before;
          few = held.few;
          place =
              still_there children more (place_of node.parent node.scope) (suc number) held.place;
        };
    braces = table.braces;
  }

  module _ (node : Node) (inside : node.parent ≤ length nodes) (few_scopes : node.scope < 8)
      (empty : slice_get children (place_of node.parent node.scope) ≡ Some 0) (long : length more ≡ 8)
      (tells : node.brace ≡ brace_with nodes node.parent node.scope) where
    within : place_of node.parent node.scope < length (children ++ more)
    within =
        slice_get_within (children ++ more) (place_of node.parent node.scope) 0
        (still_there children more (place_of node.parent node.scope) 0 empty)

    more_child : (link scope child : ℕ) → IsChild nodes link scope child
        → IsChild (nodes ++ node ∷ []) link scope child
    more_child link scope child c = record {
      node = c.node;
      node_is = still_there nodes (node ∷ []) child c.node c.node_is;
      parent_is = c.parent_is;
      scope_is = c.scope_is;
    }

    told_more : (link scope child : ℕ) → scope < 8
        → slice_get (slice_set (children ++ more) (place_of node.parent node.scope) (suc (length nodes)))
        (place_of link scope) ≡ Some (suc child) → IsChild (nodes ++ node ∷ []) link scope child
    told_more link scope child few is =
        by_place (eqb (place_of link scope) (place_of node.parent node.scope)) refl
      where
        by_place : (b : Bool) → eqb (place_of link scope) (place_of node.parent node.scope) ≡ b
            → IsChild (nodes ++ node ∷ []) link scope child
        by_place true e =
            let same = eqb-true (place_of link scope) (place_of node.parent node.scope) e in
            let both : Some (suc child) ≡ Some (suc (length nodes)) =
            sym is
            ∙ ap (slice_get (slice_set (children ++ more) (place_of node.parent node.scope) (suc (length nodes)))) same
            ∙ set_there (children ++ more) (place_of node.parent node.scope) (suc (length nodes)) within in
            let last : suc child ≡ suc (length nodes) = cc in
            let number : length nodes ≡ child = omega (arith, last) in
            record {
              node = node;
              node_is = subst (λ n. slice_get (nodes ++ node ∷ []) n ≡ Some node) number (at_end nodes node);
              parent_is = sym (same_link link scope node.parent node.scope few few_scopes same);
              scope_is = sym (same_scope link scope node.parent node.scope few few_scopes same);
            }
        by_place false e =
            more_child link scope child
            (table.told link scope child few
            (still_told children more (place_of link scope) child none
            (sym
            (set_elsewhere (children ++ more) (place_of node.parent node.scope) (place_of link scope) (suc (length nodes))
            (eqb-false (place_of link scope) (place_of node.parent node.scope) e))
            ∙ is)))

    held_more : (number : ℕ) (other : Node) → slice_get (nodes ++ node ∷ []) number ≡ Some other
        → IsHeld (slice_set (children ++ more) (place_of node.parent node.scope) (suc (length nodes))) number other
    held_more number other is = by_place (is_pushed nodes node number other is)
      where
        by_place : (slice_get nodes number ≡ Some other) ⊎ ((number ≡ length nodes) × (node ≡ other))
            → IsHeld (slice_set (children ++ more) (place_of node.parent node.scope) (suc (length nodes))) number other
        by_place (inl there) =
            let held = table.held number other there in
            let apart : place_of other.parent other.scope ≡ place_of node.parent node.scope → ⊥ =
            λ same.
            (let both : Some (suc number) ≡ Some 0 = sym held.place ∙ ap (slice_get children) same ∙ empty in
            let no : suc number ≡ 0 = cc in
            omega (arith, no)) in
            record {
              before = held.before;
              few = held.few;
              place =
                  set_elsewhere (children ++ more) (place_of node.parent node.scope)
                  (place_of other.parent other.scope) (suc (length nodes)) apart
                  ∙ still_there children more (place_of other.parent other.scope) (suc number) held.place;
            }
        by_place (inr last) =
            subst
            (λ n. IsHeld (slice_set (children ++ more) (place_of node.parent node.scope) (suc (length nodes))) n other)
            (sym last.0)
            (subst
            (λ o. IsHeld (slice_set (children ++ more) (place_of node.parent node.scope) (suc (length nodes)))
            (length nodes) o) last.1
            (record {
              before = inside;
              few = few_scopes;
              place = set_there (children ++ more) (place_of node.parent node.scope) (suc (length nodes)) within;
            }))

    braces_more : (number : ℕ) (other : Node) → slice_get (nodes ++ node ∷ []) number ≡ Some other
        → other.brace ≡ brace_with (nodes ++ node ∷ []) other.parent other.scope
    braces_more number other is = by_place (is_pushed nodes node number other is)
      where
        by_place : (slice_get nodes number ≡ Some other) ⊎ ((number ≡ length nodes) × (node ≡ other))
            → other.brace ≡ brace_with (nodes ++ node ∷ []) other.parent other.scope
        by_place (inl there) =
            let before = (table.held number other there).before in
            let less = slice_get_within nodes number other there in
            table.braces number other there
            ∙ sym (still_brace nodes (node ∷ []) other.parent other.scope (omega (arith, before, less)))
        by_place (inr last) =
            subst (λ (o : Node). o.brace ≡ brace_with (nodes ++ node ∷ []) o.parent o.scope) last.1
            (tells ∙ sym (still_brace nodes (node ∷ []) node.parent node.scope inside))

    -- The table with the node, which the link of its parent tells.
    pub node_more : IsTable (nodes ++ node ∷ [])
        (slice_set (children ++ more) (place_of node.parent node.scope) (suc (length nodes)))
    node_more = record {
      room =
          (let room = table.room in
          let all = length-append children more in
          let set = length-set (children ++ more) (place_of node.parent node.scope) (suc (length nodes)) in
          let nodes_long = length-append nodes (node ∷ []) in
          omega (arith, room, all, set, nodes_long, long));
      told = told_more;
      held = held_more;
      braces = braces_more;
    }
