-- Items are put in order of place in one way.
use Rattle.std.proofs.Common.{◌≡◌, ℕ, ◌≤◌, Bool, true, false, not, ◌&&◌, cond, List, [], ◌∷◌, filter, refl, sym}
use Rattle.std.proofs.Common.{◌∙◌, ap, subst, nat_cmp, nat_lt, is_lt, ◌==◌, Less, Equal, Greater, le_antisymm, le_of_eq}
use Rattle.std.proofs.Common.{le_trans, le_refl, le-ltb, arith}
use Rattle.std.proofs.lemmas.List.Sorted.{IsNonDecreasingBy-drop}
use Rattle.std.proofs.lemmas.Map.Keys.{ge_from_not_lt}
use Rattle.std.specs.List.Sorted.{IsNonDecreasingBy}
use Rattle.js_totsenak.specs.Items.{ArePlaced, item_start}
use Rattle.js_totsenak.specs.declared.items.Item.{Item}

-- neither number is less than the other
abbrev tie : ℕ → ℕ → Bool
tie m n = not (is_lt (nat_cmp m n)) && not (is_lt (nat_cmp n m))

less_is : (m n : ℕ) → is_lt (nat_cmp m n) ≡ nat_lt m n
less_is m n = by (nat_lt m n) (m == n)
  where
    by : (p q : Bool) → is_lt (cond p Less (cond q Equal Greater)) ≡ p
    by true q = refl
    by false true = refl
    by false false = refl

tie_same : (m n : ℕ) → m ≡ n → tie m n ≡ true
tie_same m n e =
    subst (λ k. tie m k ≡ true) e (ap (λ b. not b && not b) (less_is m m ∙ le-ltb m m (le_refl m)))

neither : (a b : Bool) → not a && not b ≡ true → (a ≡ false) × (b ≡ false)
neither true b h = absurd cc
neither false true h = absurd cc
neither false false h = (refl, refl)

tie_is : (m n : ℕ) → tie m n ≡ true → m ≡ n
tie_is m n h =
    let both = neither (is_lt (nat_cmp m n)) (is_lt (nat_cmp n m)) h in
    le_antisymm (ge_from_not_lt n m both.1) (ge_from_not_lt m n both.0)

-- those that tie with an element
abbrev tied : {X : Type 0} → (X → ℕ) → X → List X → List X
tied key x ys = filter (λ y. tie (key x) (key y)) ys

-- the first element of a list with these keys is no greater than one that the list has
least : {X : Type 0} (key : X → ℕ) (x y : X) (ys rest : List X) → IsNonDecreasingBy key (y ∷ ys)
    → tied key x (y ∷ ys) ≡ x ∷ rest → key y ≤ key x
least {X} key x y [] rest up e = by (tie (key x) (key y)) refl e
  where
    by : (b : Bool) → tie (key x) (key y) ≡ b → cond b (y ∷ []) [] ≡ x ∷ rest → key y ≤ key x
    by true t e = le_of_eq (sym (tie_is (key x) (key y) t))
    by false t e = absurd cc
least {X} key x y (z ∷ zs) rest up e =
    by (tie (key x) (key y)) refl e (least key x z zs rest (IsNonDecreasingBy-drop key 1 (y ∷ z ∷ zs) up))
  where
    by : (b : Bool) → tie (key x) (key y) ≡ b → cond b (y ∷ tied key x (z ∷ zs)) (tied key x (z ∷ zs)) ≡ x ∷ rest
        → (tied key x (z ∷ zs) ≡ x ∷ rest → key z ≤ key x) → key y ≤ key x
    by true t e further = le_of_eq (sym (tie_is (key x) (key y) t))
    by false t e further =
        let next : key y ≤ key z = up 0 1 y (omega arith) (omega arith) in le_trans next (further e)

own_tie : {X : Type 0} (key : X → ℕ) (x : X) (xs : List X) → tied key x (x ∷ xs) ≡ x ∷ tied key x xs
own_tie key x xs = ap (λ t. cond t (x ∷ tied key x xs) (tied key x xs)) (tie_same (key x) (key x) refl)

-- two lists whose keys don't fall are one, where the elements that tie stand alike in both
same_order : {X : Type 0} (key : X → ℕ) (a b : List X) → IsNonDecreasingBy key a → IsNonDecreasingBy key b
    → ((x : X) → tied key x a ≡ tied key x b) → a ≡ b
same_order {X} key [] [] up vp e = refl
same_order {X} key [] (y ∷ b) up vp e = absurd (let no : [] ≡ y ∷ tied key y b = e y ∙ own_tie key y b in cc)
same_order {X} key (x ∷ a) [] up vp e =
    absurd (let no : x ∷ tied key x a ≡ [] = sym (own_tie key x a) ∙ e x in cc)
same_order {X} key (x ∷ a) (y ∷ b) up vp e =
    by_head same
    (same_order key a b (IsNonDecreasingBy-drop key 1 (x ∷ a) up) (IsNonDecreasingBy-drop key 1 (y ∷ b) vp))
  where
    low : key y ≤ key x
    low = least key x y b (tied key x a) vp (sym (e x) ∙ own_tie key x a)

    high : key x ≤ key y
    high = least key y x a (tied key y b) up (e y ∙ own_tie key y b)

    tie_here : tie (key x) (key y) ≡ true
    tie_here = tie_same (key x) (key y) (le_antisymm high low)

    both : x ∷ tied key x a ≡ y ∷ tied key x b
    both = sym (own_tie key x a) ∙ e x ∙ ap (λ t. cond t (y ∷ tied key x b) (tied key x b)) tie_here

    same : x ≡ y
    same = let h = both in cc

    by_test : (t : Bool) (us vs : List X) → cond t (x ∷ us) us ≡ cond t (x ∷ vs) vs → us ≡ vs
    by_test true us vs h = cc
    by_test false us vs h = h

    by_head : x ≡ y → (((z : X) → tied key z a ≡ tied key z b) → a ≡ b) → x ∷ a ≡ y ∷ b
    by_head is again =
        let alike : (z : X) → tied key z (x ∷ a) ≡ tied key z (x ∷ b) =
        λ z. e z ∙ ap (λ w. tied key z (w ∷ b)) (sym is) in
        let rest : a ≡ b =
        again (λ z. by_test (tie (key z) (key x)) (tied key z a) (tied key z b) (alike z)) in
        ap (λ w. w ∷ a) is ∙ ap (λ ws. y ∷ ws) rest

-- items are put in order in one way
pub one_placing : (items first second : List Item) → ArePlaced items first → ArePlaced items second → first ≡ second
one_placing items first second a b =
    same_order item_start first second a.ordered b.ordered (λ x. a.stable x ∙ sym (b.stable x))
