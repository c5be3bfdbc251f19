-- The last of some tokens.
use Rattle.std.proofs.Common.{◌≡◌, ◌<◌, List, [], ◌∷◌, ◌++◌, length, ap, arith, Option, Some, None}
use Rattle.std.specs.List.{last_or}
use Rattle.js_kind.specs.TokenParts.{TokenParts}

-- those before it
pub last_split : (first : Option TokenParts) (tokens : List TokenParts) (last : TokenParts) → last_or first tokens ≡ Some last
    → 0 < length tokens → (before : List TokenParts) × (tokens ≡ before ++ last ∷ [])
last_split first [] last is some = absurd (omega (arith, some))
last_split first (t ∷ []) last is some = ([], (let same : t ≡ last = cc in ap (λ x. x ∷ []) same))
last_split first (t ∷ u ∷ us) last is some =
    let more = last_split (Some t) (u ∷ us) last is (omega arith) in (t ∷ more.0, ap (λ l. t ∷ l) more.1)

-- there is one
pub last_some : (tokens : List TokenParts) (last : TokenParts) → last_or None tokens ≡ Some last → 0 < length tokens
last_some [] last is = absurd (cc)
last_some (t ∷ ts) last is = omega arith
