-- The tables that tell a class of bytes.
use Rattle.std.proofs.Common.{◌≡◌, ℕ, ◌+◌, ◌<◌, ◌≤◌, Bool, true, false, not, ◌&&◌, ltb, List, [], ◌∷◌}
use Rattle.std.proofs.Common.{length, get_or, zero, suc, refl, sym, ◌∙◌, ap, arith, add-zero}
use Rattle.std.proofs.lemmas.Bool.{ltb-true, ltb-false}
use Rattle.std.proofs.Math.ListN.{get_or-eq_default}
use Rattle.js_source.specs.Search.{matches_at}
use Rattle.js_source.specs.Runs.{HasAscii, TellsClass}

-- two tests answer alike
abbrev pub same : Bool → Bool → Bool
same true y = y
same false y = not y

pub same_true : (x y : Bool) → same x y ≡ true → x ≡ y
same_true true true e = refl
same_true true false e = absurd (cc)
same_true false true e = absurd (cc)
same_true false false e = refl

and_true : (a b : Bool) → (a && b) ≡ true → (a ≡ true) × (b ≡ true)
and_true true b e = (refl, e)
and_true false b e = absurd (cc)

low : (x : Bool) (b : ℕ) → b < 128 → (ltb b 128 && x) ≡ x
low x b lt = by_test (ltb b 128) refl
  where
    by_test : (y : Bool) → ltb b 128 ≡ y → (y && x) ≡ x
    by_test true t = refl
    by_test false t = absurd (omega (arith, ltb-false b 128 t))

high : (x : Bool) (b : ℕ) → 128 ≤ b → (ltb b 128 && x) ≡ false
high x b le = by_test (ltb b 128) refl
  where
    by_test : (y : Bool) → ltb b 128 ≡ y → (y && x) ≡ false
    by_test true t = absurd (omega (arith, ltb-true b 128 t))
    by_test false t = refl

module _ (class : ℕ → Bool) where
  -- each entry, from the one of b on, tells whether its byte is an ASCII character of the class
  abbrev pub tells_from : ℕ → List Bool → Bool
  tells_from b [] = true
  tells_from b (x ∷ xs) = same x (ltb b 128 && class b) && tells_from (suc b) xs

  told : (b : ℕ) (xs : List Bool) (k : ℕ) → tells_from b xs ≡ true → k < length xs
      → get_or xs k false ≡ (ltb (b + k) 128 && class (b + k))
  told b [] k e lt = absurd (omega arith)
  told b (x ∷ xs) zero e lt = same_true x _ (and_true _ _ e).0 ∙ ap (λ n. ltb n 128 && class n) (sym (add-zero b))
  told b (x ∷ xs) (suc k) e lt =
      let next : suc b + k ≡ b + suc k = omega arith in
      told (suc b) xs k (and_true _ _ e).1 (omega arith) ∙ ap (λ n. ltb n 128 && class n) next

  -- where each entry does, the table tells the class
  pub tells_class : (table : List Bool) → tells_from 0 table ≡ true → length table ≡ 256 → TellsClass class table
  tells_class table e n = record { ascii = alone; tells = λ b lt. entry b (omega arith) ∙ low (class b) b lt }
    where
      entry : (b : ℕ) → b < 256 → matches_at table b ≡ (ltb b 128 && class b)
      entry b lt =
          let at : 0 + b ≡ b = omega arith in
          told 0 table b e (omega arith) ∙ ap (λ n. ltb n 128 && class n) at

      alone : HasAscii table
      alone b le = by_test (ltb b 256) refl
        where
          by_test : (y : Bool) → ltb b 256 ≡ y → matches_at table b ≡ false
          by_test true t = entry b (ltb-true b 256 t) ∙ high (class b) b le
          by_test false t = get_or-eq_default table false (omega (arith, ltb-false b 256 t))

-- and each class with the same ASCII characters
pub tells_other : (class other : ℕ → Bool) (table : List Bool) → ((b : ℕ) → b < 128 → other b ≡ class b)
    → TellsClass class table → TellsClass other table
tells_other class other table alike told =
    record { ascii = told.ascii; tells = λ b small. told.tells b small ∙ sym (alike b small) }
