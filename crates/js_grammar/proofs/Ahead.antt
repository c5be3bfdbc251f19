-- Texts that go on alike: what a reading looks at behind its end.
use Rattle.std.proofs.Common.{◌≡◌, ℕ, zero, suc, ◌+◌, ◌<◌, ◌≤◌, Bool, true, false, ◌==◌, ◌&&◌, List, [], ◌∷◌, ◌++◌}
use Rattle.std.proofs.Common.{length, drop, refl, sym, ◌∙◌, ap, subst, arith, length-append, inl, inr, ◌⊎◌}
use Rattle.std.specs.Prelude.{nat_lt}
use Rattle.std.specs.List.{list_all}
use Rattle.std.proofs.lemmas.Bool.{and_parts, eqb-true, ltb-true, ne_eqb}
use Rattle.js_text.specs.Characters.{begins}
use Rattle.js_grammar.specs.Gap.{is_prefix}
use Rattle.js_grammar.proofs.NumberItems.{true_or_false}

-- Two texts begin with the same character.
pub record BeginAlike (ys zs : List ℕ) : Type 0 where
  pub first : ℕ
  pub rest : List ℕ
  pub other : List ℕ
  pub here : ys ≡ first ∷ rest
  pub there : zs ≡ first ∷ other

-- a test of the first character tells the same of both
pub begins_alike : (p : ℕ → Bool) (ys zs : List ℕ) → BeginAlike ys zs → begins p ys ≡ begins p zs
begins_alike p ys zs alike = ap (begins p) alike.here ∙ sym (ap (begins p) alike.there)

-- so do texts that go on with them
pub alike_behind : (xs ys zs : List ℕ) → BeginAlike ys zs → BeginAlike (xs ++ ys) (xs ++ zs)
alike_behind [] ys zs alike = alike
alike_behind (x ∷ xs) ys zs alike =
    record { first = x; rest = xs ++ ys; other = xs ++ zs; here = refl; there = refl }

-- what stands before a text of itself is nothing
pub nothing_before : (us ys : List ℕ) → ys ≡ us ++ ys → us ≡ []
nothing_before [] ys e = refl
nothing_before (u ∷ us) ys e = absurd (omega (arith, ap length e, length-append us ys))

-- Two texts go on alike for so many characters, or up to the first that is no ASCII character in either.
abbrev pub AgreeFor : ℕ → List ℕ → List ℕ → Type 0
AgreeFor zero ys zs = Unit {0}
AgreeFor (suc n) [] zs = ⊥
AgreeFor (suc n) (y ∷ ys) [] = ⊥
AgreeFor (suc n) (y ∷ ys) (z ∷ zs) =
    ((y ≡ z) × (y < 128 → AgreeFor n ys zs)) ⊎ ((128 ≤ y) × (128 ≤ z))

pub agree_less : (n : ℕ) (ys zs : List ℕ) → AgreeFor (suc n) ys zs → AgreeFor n ys zs
agree_less zero ys zs agree = tt
agree_less (suc n) [] zs agree = absurd agree
agree_less (suc n) (y ∷ ys) [] agree = absurd agree
agree_less (suc n) (y ∷ ys) (z ∷ zs) (inl same) = inl (same.0, λ low. agree_less n ys zs (same.1 low))
agree_less (suc n) (y ∷ ys) (z ∷ zs) (inr wide) = inr wide

pub agree_behind : (n : ℕ) (xs ys zs : List ℕ) → AgreeFor n ys zs → AgreeFor n (xs ++ ys) (xs ++ zs)
agree_behind n [] ys zs agree = agree
agree_behind zero (x ∷ xs) ys zs agree = tt
agree_behind (suc n) (x ∷ xs) ys zs agree =
    inl (refl, λ _. agree_behind n xs ys zs (agree_less n ys zs agree))

-- all of these are ASCII characters
abbrev pub are_ascii : List ℕ → Bool
are_ascii xs = list_all (λ x. nat_lt x 128) xs

-- The texts begin with the same marks of ASCII characters, of so many at most.
pub prefix_agrees : (n : ℕ) (mark ys zs : List ℕ) → are_ascii mark ≡ true → length mark ≤ n → AgreeFor n ys zs
    → is_prefix mark ys ≡ is_prefix mark zs
prefix_agrees n [] ys zs ascii short agree = refl
prefix_agrees zero (x ∷ xs) ys zs ascii short agree = absurd (omega (arith, short))
prefix_agrees (suc n) (x ∷ xs) [] zs ascii short agree = absurd agree
prefix_agrees (suc n) (x ∷ xs) (y ∷ ys) [] ascii short agree = absurd agree
prefix_agrees (suc n) (x ∷ xs) (y ∷ ys) (z ∷ zs) ascii short (inl same) =
    elim (true_or_false (y == x)) [
      | inl is ↦
          let both = and_parts (nat_lt x 128) (are_ascii xs) ascii in
          let low : y < 128 = omega (arith, eqb-true y x is, ltb-true x 128 both.0) in
          ap (λ b. (y == x) && b) (prefix_agrees n xs ys zs both.1 (omega (arith, short)) (same.1 low))
          ∙ ap (λ c. (c == x) && is_prefix xs zs) same.0
      | inr other ↦
          let there : (z == x) ≡ false = ap (λ c. c == x) (sym same.0) ∙ other in
          rw (other, there) refl
    ]
prefix_agrees (suc n) (x ∷ xs) (y ∷ ys) (z ∷ zs) ascii short (inr wide) =
    let low = ltb-true x 128 (and_parts (nat_lt x 128) (are_ascii xs) ascii).0 in
    rw (
      ne_eqb y x (λ same. absurd (omega (arith, wide.0, low, same))),
      ne_eqb z x (λ same. absurd (omega (arith, wide.1, low, same))),
    ) refl

-- Behind such a mark, where both begin with it, they go on alike for the characters that are left.
pub agree_past : (m n : ℕ) (mark ys zs : List ℕ) → are_ascii mark ≡ true → m ≡ length mark + n → AgreeFor m ys zs
    → is_prefix mark ys ≡ true → AgreeFor n (drop (length mark) ys) (drop (length mark) zs)
agree_past m n [] ys zs ascii sum agree is =
    let same : m ≡ n = omega (arith, sum) in subst (λ k. AgreeFor k ys zs) same agree
agree_past zero n (x ∷ xs) ys zs ascii sum agree is = absurd (omega (arith, sum))
agree_past (suc m) n (x ∷ xs) [] zs ascii sum agree is = absurd agree
agree_past (suc m) n (x ∷ xs) (y ∷ ys) [] ascii sum agree is = absurd agree
agree_past (suc m) n (x ∷ xs) (y ∷ ys) (z ∷ zs) ascii sum (inl same) is =
    let parts = and_parts (nat_lt x 128) (are_ascii xs) ascii in
    let both = and_parts (y == x) (is_prefix xs ys) is in
    let low : y < 128 = omega (arith, eqb-true y x both.0, ltb-true x 128 parts.0) in
    let left : m ≡ length xs + n = omega (arith, sum) in
    agree_past m n xs ys zs parts.1 left (same.1 low) both.1
agree_past (suc m) n (x ∷ xs) (y ∷ ys) (z ∷ zs) ascii sum (inr wide) is =
    let parts = and_parts (nat_lt x 128) (are_ascii xs) ascii in
    let both = and_parts (y == x) (is_prefix xs ys) is in
    absurd (omega (arith, wide.0, eqb-true y x both.0, ltb-true x 128 parts.0))
