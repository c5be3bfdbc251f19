-- Places that hold nothing, where items come or go.
use Rattle.std.proofs.Common.{◌≡◌, ◌≢◌, ℕ, zero, suc, ◌+◌, ◌-◌, ◌<◌, List, [], ◌∷◌, ◌++◌, length, take, refl, sym, ap}
use Rattle.std.proofs.Common.{◌∙◌, ⊎_elim, arith, below_more, get_or-set_other, get_or-set_same}
use Rattle.std.proofs.lemmas.Bool.{cases_eq}
use Rattle.std.proofs.lemmas.List.{take_more, take_more_set}
use Rattle.std.specs.Prelude.{Bool, true, false, slice_index_or, slice_set}
use Rattle.std.specs.Mem.Slots.Ownership.{Filled}
use Rattle.js_places.specs.Places.{IsEmptyFrom}

-- A place that an item is taken from is empty.
pub taken_is_empty : (fs : List Bool) (n : ℕ) → slice_index_or (slice_set fs n false) n false ≡ false
taken_is_empty [] n = refl
taken_is_empty (f ∷ fs) zero = refl
taken_is_empty (f ∷ fs) (suc n) = taken_is_empty fs n

-- Where an item is put into a place, those behind it stay empty.
pub empty_behind : (fs : List Bool) (n : ℕ) → IsEmptyFrom fs n → IsEmptyFrom (slice_set fs n true) (n + 1)
empty_behind [] n none k h = none k (omega arith)
empty_behind (f ∷ fs) zero none zero h = absurd (omega arith)
empty_behind (f ∷ fs) zero none (suc k) h = none (suc k) (omega arith)
empty_behind (f ∷ fs) (suc n) none zero h = absurd (omega arith)
empty_behind (f ∷ fs) (suc n) none (suc k) h =
    empty_behind fs n (λ j le. none (suc j) (omega arith)) k (omega arith)

-- Where the last item is taken, the places before it are filled, and no other.
pub last_taken : (fs : List Bool) (left : ℕ) → 0 < left → Filled fs 0 left → IsEmptyFrom fs left
    → Filled (slice_set fs (left - 1) false) 0 (left - 1) × IsEmptyFrom (slice_set fs (left - 1) false) (left - 1)
last_taken fs left some full none = (
  λ k low high. let ne : k ≢ left - 1 = omega (arith, high) in
      get_or-set_other fs (left - 1) k false false ne ∙ full k low (omega (arith, high)),
  λ k low. ⊎_elim
      (λ (same : k ≡ left - 1).
      ap (λ n. slice_index_or (slice_set fs (left - 1) false) n false) same ∙ taken_is_empty fs (left - 1))
      (λ (ne : k ≢ left - 1).
      get_or-set_other fs (left - 1) k false false ne ∙ none k (omega (arith, low, ne, some)))
      (cases_eq k (left - 1)),
)

-- The first n of the items xs of a row were moved to the same places of another, whose items are ys. All first `count`
-- places of the one were filled before, and none of the other.
pub record HaveMoved {X : Type 0} (n count : ℕ) (xs ys : List X) (fs gs : List Bool) : Type 0 where
  pub moved : take n ys ≡ take n xs
  pub left : (k : ℕ) → k < n → slice_index_or fs k false ≡ false
  pub full : Filled fs n count
  pub behind : IsEmptyFrom fs count
  pub there : Filled gs 0 n
  pub free : IsEmptyFrom gs n

some_of : {X : Type 0} (xs : List X) → 0 < length xs → X
some_of [] some = absurd (omega arith)
some_of (x ∷ xs) some = x

-- One item more is moved.
pub one_more : {X : Type 0} (n count : ℕ) (xs ys zs : List X) (fs gs : List Bool)
    → n < count → n < length xs → n < length ys → n < length fs → n < length gs
    → ((d : X) → zs ≡ slice_set ys n (slice_index_or xs n d))
    → HaveMoved n count xs ys fs gs
    → HaveMoved (n + 1) count xs zs (slice_set fs n false) (slice_set gs n true)
one_more n count xs ys zs fs gs more in_xs in_ys in_fs in_gs is have =
    let d = some_of xs (omega arith) in
    let x = slice_index_or xs n d in
    record {
      moved = ap (take (n + 1)) (is d) ∙ take_more_set ys n x in_ys ∙ ap (λ us. us ++ x ∷ []) have.moved
          ∙ sym (take_more xs n d in_xs);
      left = below_more _ _ (λ k h. let ne : k ≢ n = omega arith in
          get_or-set_other fs n k false false ne ∙ have.left k h) (get_or-set_same fs n false false in_fs);
      full = λ k low high. let ne : k ≢ n = omega arith in
          get_or-set_other fs n k false false ne ∙ have.full k (omega arith) high;
      behind = λ k low. let ne : k ≢ n = omega arith in
          get_or-set_other fs n k false false ne ∙ have.behind k low;
      there = λ k low. below_more (λ j. slice_index_or (slice_set gs n true) j false ≡ true) n
          (λ j h. let ne : j ≢ n = omega arith in
          get_or-set_other gs n j true false ne ∙ have.there j (omega arith) h)
          (get_or-set_same gs n true false in_gs) k;
      free = empty_behind gs n have.free;
    }
