-- What is taken from a list.
use Rattle.std.proofs.Common.{◌≡◌, ◌<◌, ◌↔◌, List, [], ◌∷◌, length, refl, sym, ◌∙◌, ap, arith, Option, Some, None}
use Rattle.std.specs.Prelude.{IsSome, IsNone}

empty_list : {A : Type 0} (xs : List A) → (0 < length xs → ⊥) → xs ≡ []
empty_list [] none = refl
empty_list (x ∷ xs) none = absurd (none (omega arith))

-- Nothing is found exactly where the list is empty.
pub none_found : {A : Type 0} (found : Option A) (xs ys : List A) → (IsSome found ↔ (0 < length xs)) → xs ≡ ys
    → IsNone found ↔ (ys ≡ [])
none_found None xs ys h same =
    (λ none. sym same ∙ empty_list xs (λ some. let no = h.1 some in cc), λ empty. refl)
none_found (Some x) xs ys h same = (
  λ none. absurd (cc),
  λ empty. absurd (let some = h.0 refl in let short = ap length (same ∙ empty) in omega (arith, some, short)),
)
