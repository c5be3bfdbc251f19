-- Stacks: lists whose last item is the first of what contracts see.
use Rattle.std.proofs.Common.{◌≡◌, ℕ, ◌-◌, ◌<◌, ◌≤◌, zero, suc, List, [], ◌∷◌, ◌++◌, refl, sym, ◌∙◌, ap, inl, inr}
use Rattle.std.proofs.Common.{arith, drop, get_or, length, length-drop, reverse, slice_get, take, Some, None, ◌⊎◌}
use Rattle.std.proofs.lemmas.List.{drop_all, get_or-reverse, length-reverse, reverse-append, take-append-drop}
use Rattle.std.proofs.lemmas.Option.{slice_get-get_or, slice_get_past}
use Rattle.std.proofs.Math.Seq.{drop-append_seam}
use Rattle.js_text.specs.Lists.{with_last}
use Rattle.js_jsx.specs.Stack.{with_top}

order : (a b : ℕ) → (a ≤ b) ⊎ (b < a)
order zero b = inl (omega arith)
order (suc a) zero = inr (omega arith)
order (suc a) (suc b) = elim (order a b) [
  | inl le ↦ inl (omega (arith, le))
  | inr lt ↦ inr (omega (arith, lt))
]

-- All but the last few items are all but the first few of what contracts see.
pub reverse_kept : {X : Type 0} (count : ℕ) (xs : List X)
    → reverse (take (length xs - count) xs) ≡ drop count (reverse xs)
reverse_kept count xs = elim (order count (length xs)) [
  | inl le ↦
      let kept = take (length xs - count) xs in
      let gone = drop (length xs - count) xs in
      let parts : reverse xs ≡ reverse gone ++ reverse kept =
      ap reverse (sym (take-append-drop (length xs - count) xs)) ∙ reverse-append kept gone in
      let long : length (reverse gone) ≡ count =
      omega (arith, length-reverse gone, length-drop (length xs - count) xs, le) in
      sym
      (ap (drop count) parts ∙ ap (λ n. drop n (reverse gone ++ reverse kept)) (sym long)
      ∙ drop-append_seam (reverse gone) (reverse kept))
  | inr lt ↦
      let none : length xs - count ≡ 0 = omega (arith, lt) in
      ap (λ n. reverse (take n xs)) none
      ∙ sym (drop_all count (reverse xs) (omega (arith, length-reverse xs, lt)))
]

-- the item at a depth, and none where fewer are there
pub at_depth : {X : Type 0} (xs : List X) (depth : ℕ) (x : X) → depth < length xs
    → x ≡ get_or xs (length xs - 1 - depth) x → Some x ≡ slice_get (reverse xs) depth
at_depth xs depth x within is =
    sym
    (slice_get-get_or (reverse xs) depth x (omega (arith, length-reverse xs, within))
    ∙ ap Some (get_or-reverse xs depth x within ∙ sym is))

pub none_at_depth : {X : Type 0} (xs : List X) (depth : ℕ) → length xs ≤ depth → None ≡ slice_get (reverse xs) depth
none_at_depth xs depth past = sym (slice_get_past (reverse xs) depth (omega (arith, length-reverse xs, past)))

with_top-append : {X : Type 0} (xs : List X) (y x : X) → 0 < length xs
    → with_top (xs ++ x ∷ []) y ≡ with_top xs y ++ x ∷ []
with_top-append [] y x some = absurd (omega (arith, some))
with_top-append (z ∷ zs) y x some = refl

-- Another last item is another first one of what contracts see.
pub reverse-with_last : {X : Type 0} (xs : List X) (y : X) → reverse (with_last xs y) ≡ with_top (reverse xs) y
reverse-with_last [] y = refl
reverse-with_last (x ∷ []) y = refl
reverse-with_last (x ∷ z ∷ zs) y =
    reverse-append (x ∷ []) (with_last (z ∷ zs) y)
    ∙ ap (λ l. l ++ x ∷ []) (reverse-with_last (z ∷ zs) y)
    ∙ sym (with_top-append (reverse (z ∷ zs)) y x (omega (arith, length-reverse (z ∷ zs))))
    ∙ ap (λ l. with_top l y) (sym (reverse-append (x ∷ []) (z ∷ zs)))

-- what is first behind some items
pub first_behind : {X : Type 0} (n : ℕ) (xs : List X) → slice_get (drop n xs) 0 ≡ slice_get xs n
first_behind zero xs = refl
first_behind (suc n) [] = refl
first_behind (suc n) (x ∷ xs) = first_behind n xs

-- where nothing is first, nothing is put in its place
pub top_of_none : {X : Type 0} (xs : List X) (y : X) → length xs ≡ 0 → reverse xs ≡ with_top (reverse xs) y
top_of_none [] y none = refl
top_of_none (x ∷ xs) y none = absurd (omega (arith, none))
