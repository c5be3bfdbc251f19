-- What a search finds among values by rising offsets, and what a new one does to them.
use Rattle.std.proofs.Common.{◌≡◌, ℕ, zero, suc, ◌-◌, ◌<◌, ◌≤◌, ◌≢◌, [], ◌∷◌, ◌++◌, length, get_or, set, nat_eq}
use Rattle.std.proofs.Common.{Option, Some, None, Result, Ok, Err, IfSome, IfNone, MatchBool, Bool, true, false, nat_lt}
use Rattle.std.proofs.Common.{cond, Bor, refl, sym, ap, ◌∙◌, inl, inr, arith}
use Rattle.std.specs.List.Sorted.{IsSearchInRange, IsBinarySearchResult, IsNonDecreasingBy}
use Rattle.std.specs.Option.{option_copied}
use Rattle.std.specs.Ordering.{nat_cmp, ordering_index}
use Rattle.std.specs.Result.{result_ok}
use Rattle.std.proofs.lemmas.Bool.{cases_lt, ltb-true}
use Rattle.std.proofs.lemmas.Bool.Decides.{nat_tests}
use Rattle.std.proofs.lemmas.Cmp.{ranked}
use Rattle.std.proofs.lemmas.List.{get_or_default}
use Rattle.js_source.specs.Offsets.{Placed, value_of, Holds, AreRising, IsAt, AreBelow, AreOthers}

-- no entry before the place has the offset
abbrev pub NoneBefore : {A : Type 0} → Placed A → ℕ → ℕ → Type 0
NoneBefore {A} xs k place = (j : ℕ) (d : ℕ × A) → j < place → (get_or xs j d).0 ≢ k

module _ {A : Type 0} where
  -- an offset that is above all others is none of them
  pub others_from_below : (xs : Placed A) (k : ℕ) → AreBelow xs k → AreOthers xs k
  others_from_below xs k below j d lt same = omega (arith, below j d lt)

  -- what holds of a list holds of its tail
  others_tail : (x : ℕ × A) (xs : Placed A) (k : ℕ) → AreOthers (x ∷ xs) k → AreOthers xs k
  others_tail x xs k others j d lt = others (suc j) d (omega arith)

  at_tail : (x : ℕ × A) (xs : Placed A) (k place : ℕ) → IsAt (x ∷ xs) k (suc place) → IsAt xs k place
  at_tail x xs k place is_at = record { in_range = omega (arith, is_at.in_range); has_offset = is_at.has_offset }

  none_before_tail : (x : ℕ × A) (xs : Placed A) (k place : ℕ)
      → NoneBefore (x ∷ xs) k (suc place) → NoneBefore xs k place
  none_before_tail x xs k place none j d lt = none (suc j) d (omega arith)

  module _ (ys : Placed A) (k : ℕ) where
    -- the value of an offset that is none of the first is the one behind them
    value_behind : (xs : Placed A) → AreOthers xs k → value_of (xs ++ ys) k ≡ value_of ys k
    value_behind [] others = refl
    value_behind (x ∷ xs) others =
        grind (arith, nat_tests, others 0 x (omega arith), value_behind xs (others_tail x xs k others))

    -- the first place that has the offset has its value
    value_first : (xs : Placed A) (place : ℕ) (d : ℕ × A) → IsAt xs k place → NoneBefore xs k place
        → value_of (xs ++ ys) k ≡ Some (get_or xs place d).1
    value_first [] place d is_at none = absurd (omega (arith, is_at.in_range))
    value_first (x ∷ xs) zero d is_at none = grind (arith, nat_tests, is_at.has_offset x)
    value_first (x ∷ xs) (suc place) d is_at none =
        grind (
          arith,
          nat_tests,
          none 0 x (omega arith),
          value_first xs place d (at_tail x xs k place is_at) (none_before_tail x xs k place none),
        )

    -- so what is got from those behind is got of all
    pub got_behind : (xs : Placed A) → AreOthers xs k → (got : Option (Bor A)) → option_copied got ≡ value_of ys k
        → record {
          none : IfNone got (value_of (xs ++ ys) k ≡ None);
          some : IfSome got (λ value. value_of (xs ++ ys) k ≡ Some value.now);
        }
    got_behind xs others None is = record { none = value_behind xs others ∙ sym is; some = tt }
    got_behind xs others (Some value) is = record { none = tt; some = value_behind xs others ∙ sym is }

    module _ (v : A) where
      -- a new value at that place is kept
      set_first : (xs : Placed A) (place : ℕ) → IsAt xs k place → NoneBefore xs k place
          → Holds k v (xs ++ ys) (set xs place (k, v) ++ ys)
      set_first [] place is_at none at = absurd (omega (arith, is_at.in_range))
      set_first (x ∷ xs) zero is_at none at = grind (arith, nat_tests, is_at.has_offset x)
      set_first (x ∷ xs) (suc place) is_at none at =
          grind (
            arith,
            nat_tests,
            none 0 x (omega arith),
            set_first xs place (at_tail x xs k place is_at) (none_before_tail x xs k place none) at,
          )

      -- so is one behind others
      pub holds_pushed : (xs : Placed A) → AreOthers xs k → Holds k v (xs ++ ys) ((xs ++ (k, v) ∷ []) ++ ys)
      holds_pushed [] others at = grind (arith, nat_tests)
      holds_pushed (x ∷ xs) others at =
          grind (arith, nat_tests, others 0 x (omega arith), holds_pushed xs (others_tail x xs k others) at)

      -- and one that is kept behind others
      pub holds_behind : (zs xs : Placed A) → AreOthers xs k
          → ((q : ℕ) → value_of zs q ≡ cond (nat_eq k q) (Some v) (value_of ys q)) → Holds k v (xs ++ ys) (xs ++ zs)
      holds_behind zs [] others updates at = grind (arith, nat_tests, updates at)
      holds_behind zs (x ∷ xs) others updates at =
          grind (arith, nat_tests, others 0 x (omega arith), holds_behind zs xs (others_tail x xs k others) updates at)

  module _ (xs : Placed A) (rise : AreRising xs) (k : ℕ) where
    -- an offset that is past the last is past all that are there
    below_past_last : (last : ℕ × A) → last ≡ get_or xs (length xs - 1) last → last.0 < k → AreBelow xs k
    below_past_last last is past j d lt = grind (arith, rise j (length xs - 1) last, get_or_default xs j d last)

    -- so it is enough to look at the last
    pub past_last : (last : ℕ × A) → last ≡ get_or xs (length xs - 1) last
        → MatchBool (nat_lt last.0 k) (AreBelow xs k) (Unit {0})
    past_last last is = by_test (nat_lt last.0 k) (λ past. below_past_last last is (ltb-true last.0 k past))
      where
        by_test : (b : Bool) → (b ≡ true → AreBelow xs k) → MatchBool b (AreBelow xs k) (Unit {0})
        by_test true below = below refl
        by_test false below = tt

    -- the comparisons with the offset rise along the list, as a binary search asks
    comparisons_rise : IsNonDecreasingBy (λ entry. ordering_index (nat_cmp entry.0 k)) xs
    comparisons_rise i j d le lt =
        let rises : (get_or xs i d).0 ≤ (get_or xs j d).0 =
        grind (arith, rise i j d, λ (same : i ≡ j). ap (λ q. (get_or xs q d).0) same) in
        grind (arith, nat_tests)

    -- a binary search finds the offset, if it is there
    pub searched : (r : Result ℕ ℕ) → IsSearchInRange r (length xs)
        → IsBinarySearchResult (λ entry. nat_cmp entry.0 k) xs r
        → record { found : IfSome (result_ok r) (IsAt xs k); absent : IfNone (result_ok r) (AreOthers xs k) }
    searched (Ok place) in_range equal = record {
      found = record { in_range = in_range; has_offset = λ d. ranked _ k _ (sym (equal d)) };
      absent = tt;
    }
    searched (Err gap) in_range parted = record {
      found = tt;
      absent = λ j d lt same. elim (cases_lt j gap) [
        | inl before ↦ omega (arith, ranked _ k _ (sym ((parted comparisons_rise).0 j d (omega arith) before)))
        | inr behind ↦ omega (arith, ranked _ k _ (sym ((parted comparisons_rise).1 j d behind lt)))
      ];
    }

    module _ (place : ℕ) (is_at : IsAt xs k place) where
      -- the offsets before a place are lower
      none_before : NoneBefore xs k place
      none_before j d lt same = omega (arith, rise j place d lt is_at.in_range, is_at.has_offset d)

      -- the value that is found is the one at the place of the offset
      pub value_at : (ys : Placed A) (d : ℕ × A) → value_of (xs ++ ys) k ≡ Some (get_or xs place d).1
      value_at ys d = value_first ys k xs place d is_at none_before

      -- and a new value there is kept
      pub holds_set : (ys : Placed A) (v : A) → Holds k v (xs ++ ys) (set xs place (k, v) ++ ys)
      holds_set ys v = set_first ys k v xs place is_at none_before
