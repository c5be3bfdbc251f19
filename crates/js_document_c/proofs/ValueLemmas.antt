-- Where no value stands at an offset, no token does.
use Rattle.std.proofs.Common.{◌≡◌, ℕ, suc, List, [], ◌∷◌, map, slice_get, Some, None, refl, subst}
use Rattle.std.specs.List.{AllByRecursion}
use Rattle.js_kind.specs.TokenParts.{TokenParts}
use Rattle.js_lists.specs.Taken.{Taken}
use Rattle.js_document.specs.LiveTokens.{Covers}
use Rattle.js_document.specs.Values.{IsValueAt}

none_covered : (offset : ℕ) (all : List Taken)
    → ((index : ℕ) (token : TokenParts) → slice_get (map (λ (x : Taken). x.token) all) index ≡ Some token
    → Covers offset token → None ≡ slice_get (map (λ (x : Taken). x.value) all) index)
    → AllByRecursion (λ token. Covers offset token → ⊥) (map (λ (x : Taken). x.token) all)
none_covered offset [] without = tt
none_covered offset (x ∷ xs) without = (
  λ covers. let none : None ≡ Some x.value = without 0 x.token refl covers in absurd (cc),
  none_covered offset xs (λ index token there covers. without (suc index) token there covers),
)

-- The byte at the offset belongs to none of the tokens, each of which has a value, where no value stands there.
pub no_token_without_value : (offset : ℕ) (all : List Taken) (tokens : List TokenParts)
    → map (λ (x : Taken). x.token) all ≡ tokens
    → IsValueAt offset tokens (map (λ (x : Taken). x.value) all) None
    → AllByRecursion (λ token. Covers offset token → ⊥) tokens
no_token_without_value offset all tokens are none =
    subst (AllByRecursion (λ token. Covers offset token → ⊥)) are
    (none_covered offset all (λ index token there covers.
    none.of_token index token (subst (λ ts. slice_get ts index ≡ Some token) are there) covers))
