-- Changes of what is found.
use Rattle.std.proofs.Common.{◌≡◌, ◌≤◌, ℕ, zero, suc, ◌<◌, List, [], ◌∷◌, refl, sym, ap, subst, get_or, length, arith}
use Rattle.std.proofs.Math.ListN.{set}
use Rattle.js_imports.specs.Scans.{change}
use Rattle.js_imports.specs.declared.found.Found.{Found}

-- A write of what has an index is a change of it.
pub change_at : (f : Found → Found) (found : List Found) (index : ℕ) (x : Found) → index < length found
    → x ≡ get_or found index x → set found index (f x) ≡ change f index found
change_at f [] index x within is = refl
change_at f (y ∷ ys) zero x within is = ap (λ z. f z ∷ ys) is
change_at f (y ∷ ys) (suc index) x within is = ap (λ zs. y ∷ zs) (change_at f ys index x (omega arith) is)

change_past : (f : Found → Found) (found : List Found) (index : ℕ) → length found ≤ index
    → change f index found ≡ found
change_past f [] index past = refl
change_past f (y ∷ ys) zero past = absurd (omega arith)
change_past f (y ∷ ys) (suc index) past = ap (λ zs. y ∷ zs) (change_past f ys index (omega arith))

-- There is nothing to change with an index that is too large.
pub stays_past : (f : Found → Found) (found now : List Found) (index : ℕ) → found ≡ now → length found ≤ index
    → now ≡ change f index now
stays_past f found now index same past =
    sym (change_past f now index (subst (λ (xs : List Found). length xs ≤ index) same past))
