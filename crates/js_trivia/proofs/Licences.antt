-- A search for licences goes from one `@` to the next.
use Rattle.std.proofs.Common.{◌≡◌, ℕ, zero, suc, ◌+◌, ◌-◌, ◌<◌, ◌≤◌, Bool, true, false, List, [], ◌∷◌, length, drop}
use Rattle.std.proofs.Common.{take, refl, sym, ◌∙◌, arith, get_or, None, Some, length-take}
use Rattle.std.specs.Prelude.{◌==◌, ◌&&◌, ◌||◌, codes}
use Rattle.std.specs.List.{list_any, slice_range}
use Rattle.std.proofs.lemmas.List.{get_or-drop, get_or-take}
use Rattle.std.proofs.lemmas.Bool.{eqb-true, eq-eqb}
use lib.Pointwise.{pointwise}
use Rattle.memchr.specs.Find.{IsFirstByte, is_byte}
use Rattle.js_grammar.specs.CommentClasses.{is_licensed}

not_true : (x : Bool) → (x ≡ true → ⊥) → x ≡ false
not_true true h = absurd (h refl)
not_true false h = refl

without_front : (front p q rest : Bool) → front ≡ false → (((front && p) || (front && q)) || rest) ≡ rest
without_front true p q rest h = absurd cc
without_front false p q rest h = refl

turned : (b : ℕ) → (b == 64) ≡ false → (64 == b) ≡ false
turned b h = not_true (64 == b) (λ same. absurd (by_test (sym (eqb-true 64 b same))))
  where
    by_test : b ≡ 64 → ⊥
    by_test e = let one : (b == 64) ≡ true = eq-eqb b 64 e in cc

not_here : (b : ℕ) (bs : List ℕ) → (b == 64) ≡ false → is_licensed (b ∷ bs) ≡ is_licensed bs
not_here b bs h =
    without_front (64 == b) (pointwise (λ x y. x == y) (codes "license") (take 7 bs))
    (pointwise (λ x y. x == y) (codes "preserve") (take 8 bs)) (is_licensed bs) (turned b h)

-- where no `@` stands in front, nothing there matters
pub without_ats : (k : ℕ) (text : List ℕ) → ((i : ℕ) → i < k → (get_or text i 0 == 64) ≡ false)
    → is_licensed text ≡ is_licensed (drop k text)
without_ats zero text h = refl
without_ats (suc k) [] h = refl
without_ats (suc k) (b ∷ bs) h = not_here b bs (h 0 (omega arith)) ∙ without_ats k bs (λ i lt. h (suc i) (omega arith))

pub at_first : (text : List ℕ) (k : ℕ) → IsFirstByte (is_byte 64) text (Some k) → is_licensed (drop k text)
    ≡ is_licensed text
at_first text k h = sym (without_ats k text (λ i lt. not_true _ (h.0.before i (omega arith) lt)))

nothing_left : (n : ℕ) (xs : List ℕ) → length xs ≤ n → is_licensed (drop n xs) ≡ false
nothing_left zero [] le = refl
nothing_left zero (x ∷ xs) le = absurd (omega arith)
nothing_left (suc n) [] le = refl
nothing_left (suc n) (x ∷ xs) le = nothing_left n xs (omega arith)

pub at_none : (text : List ℕ) → IsFirstByte (is_byte 64) text None → is_licensed text ≡ false
at_none text h =
    without_ats (length text) text (λ i lt. not_true _ (h i (omega arith) lt))
    ∙ nothing_left (length text) text (omega arith)

-- the same between two places
pub none_between : (text : List ℕ) (from to : ℕ) → ((k : ℕ) → from ≤ k → k < to → get_or text k 0 ≡ 64 → ⊥)
    → is_licensed (slice_range text from to) ≡ false
none_between text from to none =
    let part = slice_range text from to in
    without_ats (length part) part
    (λ i lt. not_true _ (λ is. none (from + i) (omega arith)
    (omega (arith, lt, length-take (to - from) (drop from text)))
    (same i (omega (arith, lt, length-take (to - from) (drop from text))) ∙ eqb-true _ 64 is)))
    ∙ nothing_left (length part) part (omega arith)
  where
    same : (i : ℕ) → i < to - from → get_or text (from + i) 0 ≡ get_or (slice_range text from to) i 0
    same i lt =
        sym (get_or-drop from text i 0) ∙ sym (get_or-take (to - from) (drop from text) i 0 lt)

or_none : (a b : Bool) → (a || b) ≡ false → (a ≡ false) × (b ≡ false)
or_none true b h = absurd cc
or_none false b h = (refl, h)

-- the same, where a search of the front finds none
pub without_any_at : (k : ℕ) (text : List ℕ) → list_any (λ b. b == 64) (take k text) ≡ false
    → is_licensed text ≡ is_licensed (drop k text)
without_any_at zero text h = refl
without_any_at (suc k) [] h = refl
without_any_at (suc k) (b ∷ bs) h =
    let parts = or_none (b == 64) (list_any (λ b. b == 64) (take k bs)) h in
    not_here b bs parts.0 ∙ without_any_at k bs parts.1

mark_too_long : (mark bs : List ℕ) → length bs < length mark → pointwise (λ x y. x == y) mark bs ≡ false
mark_too_long [] bs le = absurd (omega arith)
mark_too_long (m ∷ ms) [] le = refl
mark_too_long (m ∷ ms) (b ∷ bs) le = and_none (m == b) _ (mark_too_long ms bs (omega arith))
  where
    and_none : (a b : Bool) → b ≡ false → (a && b) ≡ false
    and_none true b h = h
    and_none false b h = refl

none_there : (front p q rest : Bool) → p ≡ false → q ≡ false → rest ≡ false
    → (((front && p) || (front && q)) || rest) ≡ false
none_there true p q rest no_p no_q no_rest = simp (no_p, no_q, no_rest)
none_there false p q rest no_p no_q no_rest = no_rest

-- fewer bytes than the shorter mark has hold neither
pub seven_hold_none : (text : List ℕ) → length text < 8 → is_licensed text ≡ false
seven_hold_none [] le = refl
seven_hold_none (b ∷ bs) le =
    none_there (64 == b) (pointwise (λ x y. x == y) (codes "license") (take 7 bs))
    (pointwise (λ x y. x == y) (codes "preserve") (take 8 bs)) (is_licensed bs)
    (mark_too_long (codes "license") (take 7 bs) (omega (arith, length-take 7 bs)))
    (mark_too_long (codes "preserve") (take 8 bs) (omega (arith, length-take 8 bs)))
    (seven_hold_none bs (omega arith))
