-- Laws of `with_last`.
use Rattle.std.proofs.Common.{◌≡◌, ℕ, List, [], ◌∷◌, length, set, zero, suc, refl, ap, arith}
use Rattle.js_text.specs.Lists.{with_last}

-- a write at the last index
pub with_last-set : {T : Type 0} (xs : List T) (n : ℕ) (y : T) → length xs ≡ suc n → set xs n y ≡ with_last xs y
with_last-set [] n y e = absurd (omega arith)
with_last-set (x ∷ []) zero y e = refl
with_last-set (x ∷ []) (suc n) y e = absurd (omega arith)
with_last-set (x ∷ z ∷ zs) zero y e = absurd (omega arith)
with_last-set (x ∷ z ∷ zs) (suc n) y e = ap (λ ts. x ∷ ts) (with_last-set (z ∷ zs) n y (omega (arith, e)))
