-- Which items went and came, where two lists have the same front and, moved, the same end.
use Rattle.std.proofs.Common.{◌≡◌, ℕ, zero, suc, ◌+◌, ◌-◌, ◌<◌, ◌≤◌, List, [], ◌∷◌, ◌++◌, length, map, take, drop, refl}
use Rattle.std.proofs.Common.{get_or, sym, ◌∙◌, ap, subst, arith, length-append, zero-add, Some}
use Rattle.std.specs.List.{AllByRecursion}
use Rattle.std.specs.Prelude.{reverse, slice_get}
use Rattle.std.proofs.lemmas.List.{drop-append-le, drop-drop, get_or-reverse, length-drop, length-map, length-reverse}
use Rattle.std.proofs.lemmas.List.{map-append, reverse-append, reverse-reverse, take-append-le, take_rest}
use Rattle.js_document.specs.declared.change.ChangedRange.{ChangedRange}
use Rattle.js_document.specs.Changed.{AreCommon, IsChange, IsChangeBetween, IsSameBefore, IsSameBehind}
use Rattle.js_document.proofs.ListLemmas.{get_dropped, get_left, get_turned, map_turned, suc_add, take_turned, turned_same}

module _ {A : Type 0} (P : A → A → Type 0) where
  -- no more than either list has
  pub common_few : (xs ys : List A) (n : ℕ) → AreCommon {A = A} P xs ys n → (n ≤ length xs) × (n ≤ length ys)
  common_few [] ys n h = (omega (arith, h), omega (arith, h))
  common_few (x ∷ xs) [] n h = (omega (arith, h), omega (arith, h))
  common_few (x ∷ xs) (y ∷ ys) zero h = (omega arith, omega arith)
  common_few (x ∷ xs) (y ∷ ys) (suc n) h =
      let more = common_few xs ys n h.1 in (omega (arith, more.0), omega (arith, more.1))

  -- where both lists have one more, these do not have the property
  pub common_ends : (xs ys : List A) (n : ℕ) (x y : A) → AreCommon {A = A} P xs ys n → slice_get xs n ≡ Some x
      → slice_get ys n ≡ Some y → P x y → ⊥
  common_ends [] ys n x y h at_x at_y p = absurd (cc)
  common_ends (a ∷ xs) [] n x y h at_x at_y p = absurd (cc)
  common_ends (a ∷ xs) (b ∷ ys) zero x y h at_x at_y p =
      let first : a ≡ x = cc in
      let second : b ≡ y = cc in
      h (subst (λ v. P v b) (sym first) (subst (P x) (sym second) p))
  common_ends (a ∷ xs) (b ∷ ys) (suc n) x y h at_x at_y p = common_ends xs ys n x y h.1 at_x at_y p

  -- an item before the end
  pub common_at : (xs ys : List A) (n index : ℕ) (x : A) → AreCommon {A = A} P xs ys n → index < n
      → slice_get xs index ≡ Some x → (y : A) × (slice_get ys index ≡ Some y) × P x y
  common_at [] ys n index x h less at_x = absurd (cc)
  common_at (a ∷ xs) [] n index x h less at_x = absurd (omega (arith, less, h))
  common_at (a ∷ xs) (b ∷ ys) zero index x h less at_x = absurd (omega (arith, less))
  common_at (a ∷ xs) (b ∷ ys) (suc n) zero x h less at_x =
      let first : a ≡ x = cc in (b, refl, subst (λ v. P v b) first h.0)
  common_at (a ∷ xs) (b ∷ ys) (suc n) (suc index) x h less at_x =
      common_at xs ys n index x h.1 (omega (arith, less)) at_x

-- So many items at the front of both lists have the property.
abbrev pub HaveInCommon : {A : Type 0} → (A → A → Type 0) → List A → List A → ℕ → Type 0
HaveInCommon {A} P xs ys zero = Unit {0}
HaveInCommon {A} P [] ys (suc n) = ⊥
HaveInCommon {A} P (x ∷ xs) [] (suc n) = ⊥
HaveInCommon {A} P (x ∷ xs) (y ∷ ys) (suc n) = P x y × HaveInCommon {A = A} P xs ys n

module _ {A : Type 0} (P : A → A → Type 0) where
  in_common_more : (xs ys : List A) (n : ℕ) (d e : A) → n < length xs → n < length ys
      → P (get_or xs n d) (get_or ys n e) → HaveInCommon {A = A} P xs ys n → HaveInCommon {A = A} P xs ys (suc n)
  in_common_more [] ys n d e in_xs in_ys same so_far = absurd (omega (arith, in_xs))
  in_common_more (x ∷ xs) [] n d e in_xs in_ys same so_far = absurd (omega (arith, in_ys))
  in_common_more (x ∷ xs) (y ∷ ys) zero d e in_xs in_ys same so_far = (same, tt)
  in_common_more (x ∷ xs) (y ∷ ys) (suc n) d e in_xs in_ys same so_far =
      (so_far.0, in_common_more xs ys n d e (omega (arith, in_xs)) (omega (arith, in_ys)) same so_far.1)

  pub common_more : (xs ys : List A) (n : ℕ) (d e : A) → n < length xs → n < length ys
      → P (get_or xs n d) (get_or ys n e) → HaveInCommon {A = A} P xs ys n → HaveInCommon {A = A} P xs ys (n + 1)
  common_more xs ys n d e in_xs in_ys same so_far =
      let one : suc n ≡ n + 1 = omega arith in
      subst (HaveInCommon {A = A} P xs ys) one (in_common_more xs ys n d e in_xs in_ys same so_far)

  pub common_differs : (xs ys : List A) (n : ℕ) (d e : A) → n < length xs → n < length ys
      → (P (get_or xs n d) (get_or ys n e) → ⊥) → HaveInCommon {A = A} P xs ys n → AreCommon {A = A} P xs ys n
  common_differs [] ys n d e in_xs in_ys differ so_far = absurd (omega (arith, in_xs))
  common_differs (x ∷ xs) [] n d e in_xs in_ys differ so_far = absurd (omega (arith, in_ys))
  common_differs (x ∷ xs) (y ∷ ys) zero d e in_xs in_ys differ so_far = differ
  common_differs (x ∷ xs) (y ∷ ys) (suc n) d e in_xs in_ys differ so_far =
      (so_far.0, common_differs xs ys n d e (omega (arith, in_xs)) (omega (arith, in_ys)) differ so_far.1)

  pub common_old_end : (xs ys : List A) (n : ℕ) → length xs ≤ n → HaveInCommon {A = A} P xs ys n
      → AreCommon {A = A} P xs ys n
  common_old_end [] ys zero past so_far = refl
  common_old_end [] ys (suc n) past so_far = absurd so_far
  common_old_end (x ∷ xs) ys zero past so_far = absurd (omega (arith, past))
  common_old_end (x ∷ xs) [] (suc n) past so_far = absurd so_far
  common_old_end (x ∷ xs) (y ∷ ys) (suc n) past so_far =
      (so_far.0, common_old_end xs ys n (omega (arith, past)) so_far.1)

  pub common_new_end : (xs ys : List A) (n : ℕ) → length ys ≤ n → HaveInCommon {A = A} P xs ys n
      → AreCommon {A = A} P xs ys n
  common_new_end [] ys zero past so_far = refl
  common_new_end [] ys (suc n) past so_far = absurd so_far
  common_new_end (x ∷ xs) [] zero past so_far = refl
  common_new_end (x ∷ xs) [] (suc n) past so_far = absurd so_far
  common_new_end (x ∷ xs) (y ∷ ys) zero past so_far = absurd (omega (arith, past))
  common_new_end (x ∷ xs) (y ∷ ys) (suc n) past so_far =
      (so_far.0, common_new_end xs ys n (omega (arith, past)) so_far.1)

-- The same of their last items.
module _ {A : Type 0} (P : A → A → Type 0) where
  turned_long : (xs : List A) (n : ℕ) → n < length xs → n < length (reverse xs)
  turned_long xs n less = let long = length-reverse xs in omega (arith, long, less)

  at_back : (xs ys : List A) (n : ℕ) (d e : A) → n < length xs → n < length ys
      → P (get_or (reverse xs) n d) (get_or (reverse ys) n e)
      → P (get_or xs (length xs - 1 - n) d) (get_or ys (length ys - 1 - n) e)
  at_back xs ys n d e in_xs in_ys is =
      subst (λ x. P x (get_or ys (length ys - 1 - n) e)) (get_or-reverse xs n d in_xs)
      (subst (P (get_or (reverse xs) n d)) (get_or-reverse ys n e in_ys) is)

  from_back : (xs ys : List A) (n : ℕ) (d e : A) → n < length xs → n < length ys
      → P (get_or xs (length xs - 1 - n) d) (get_or ys (length ys - 1 - n) e)
      → P (get_or (reverse xs) n d) (get_or (reverse ys) n e)
  from_back xs ys n d e in_xs in_ys is =
      subst (λ x. P x (get_or (reverse ys) n e)) (sym (get_or-reverse xs n d in_xs))
      (subst (P (get_or xs (length xs - 1 - n) d)) (sym (get_or-reverse ys n e in_ys)) is)

  pub back_more : (xs ys : List A) (n : ℕ) (d e : A) → n < length xs → n < length ys
      → P (get_or xs (length xs - 1 - n) d) (get_or ys (length ys - 1 - n) e)
      → HaveInCommon {A = A} P (reverse xs) (reverse ys) n → HaveInCommon {A = A} P (reverse xs) (reverse ys) (n + 1)
  back_more xs ys n d e in_xs in_ys same so_far =
      common_more P (reverse xs) (reverse ys) n d e (turned_long xs n in_xs) (turned_long ys n in_ys)
      (from_back xs ys n d e in_xs in_ys same) so_far

  pub back_differs : (xs ys : List A) (n : ℕ) (d e : A) → n < length xs → n < length ys
      → (P (get_or xs (length xs - 1 - n) d) (get_or ys (length ys - 1 - n) e) → ⊥)
      → HaveInCommon {A = A} P (reverse xs) (reverse ys) n → AreCommon {A = A} P (reverse xs) (reverse ys) n
  back_differs xs ys n d e in_xs in_ys differ so_far =
      common_differs P (reverse xs) (reverse ys) n d e (turned_long xs n in_xs) (turned_long ys n in_ys)
      (λ is. differ (at_back xs ys n d e in_xs in_ys is)) so_far

  pub back_old_end : (xs ys : List A) (n : ℕ) → length xs ≤ n → HaveInCommon {A = A} P (reverse xs) (reverse ys) n
      → AreCommon {A = A} P (reverse xs) (reverse ys) n
  back_old_end xs ys n past so_far =
      common_old_end P (reverse xs) (reverse ys) n (let long = length-reverse xs in omega (arith, long, past)) so_far

  pub back_new_end : (xs ys : List A) (n : ℕ) → length ys ≤ n → HaveInCommon {A = A} P (reverse xs) (reverse ys) n
      → AreCommon {A = A} P (reverse xs) (reverse ys) n
  back_new_end xs ys n past so_far =
      common_new_end P (reverse xs) (reverse ys) n (let long = length-reverse ys in omega (arith, long, past)) so_far

-- the first items of both lists are the same
take_common : {A : Type 0} (P : A → A → Type 0) → ((x y : A) → P x y → y ≡ x) → (xs ys : List A) (n : ℕ)
    → AreCommon {A = A} P xs ys n → take n xs ≡ take n ys
take_common P same [] ys n h = rw h refl
take_common P same (x ∷ xs) [] n h = rw h refl
take_common P same (x ∷ xs) (y ∷ ys) zero h = refl
take_common P same (x ∷ xs) (y ∷ ys) (suc n) h =
    ap (λ v. v ∷ take n xs) (sym (same x y h.0)) ∙ ap (λ vs. y ∷ vs) (take_common P same xs ys n h.1)

-- those of which each is another, moved
map_common : {A : Type 0} (P : A → A → Type 0) (m : A → A) → ((x y : A) → P x y → y ≡ m x) → (xs ys : List A) (n : ℕ)
    → AreCommon {A = A} P xs ys n → map m (take n xs) ≡ take n ys
map_common P m same [] ys n h = rw h refl
map_common P m same (x ∷ xs) [] n h = rw h refl
map_common P m same (x ∷ xs) (y ∷ ys) zero h = refl
map_common P m same (x ∷ xs) (y ∷ ys) (suc n) h =
    ap (λ v. v ∷ map m (take n xs)) (sym (same x y h.0)) ∙ ap (λ vs. y ∷ vs) (map_common P m same xs ys n h.1)

module _ {A : Type 0} (Before Behind : A → Type 0) (moved : A → A) where
  abbrev Front : A → A → Type 0
  Front = IsSameBefore {A = A} Before

  abbrev Back : A → A → Type 0
  Back = IsSameBehind {A = A} Behind moved

  all_front : (xs ys : List A) (n : ℕ) → AreCommon {A = A} Front xs ys n → AllByRecursion Before (take n xs)
  all_front [] ys n h = rw h tt
  all_front (x ∷ xs) [] n h = rw h tt
  all_front (x ∷ xs) (y ∷ ys) zero h = tt
  all_front (x ∷ xs) (y ∷ ys) (suc n) h = (h.0.before, all_front xs ys n h.1)

  all_back : (xs ys : List A) (n : ℕ) → AreCommon {A = A} Back xs ys n → AllByRecursion Behind (take n xs)
  all_back [] ys n h = rw h tt
  all_back (x ∷ xs) [] n h = rw h tt
  all_back (x ∷ xs) (y ∷ ys) zero h = tt
  all_back (x ∷ xs) (y ∷ ys) (suc n) h = (h.0.behind, all_back xs ys n h.1)

  all_both : (P : A → Type 0) (xs ys : List A) → AllByRecursion P xs → AllByRecursion P ys → AllByRecursion P (xs ++ ys)
  all_both P [] ys all more = more
  all_both P (x ∷ xs) ys all more = (all.0, all_both P xs ys all.1 more)

  all_left : (P : A → Type 0) (xs ys : List A) → AllByRecursion P (xs ++ ys) → AllByRecursion P xs
  all_left P [] ys all = tt
  all_left P (x ∷ xs) ys all = (all.0, all_left P xs ys all.1)

  all_turned : (P : A → Type 0) (xs : List A) → AllByRecursion P xs → AllByRecursion P (reverse xs)
  all_turned P [] all = tt
  all_turned P (x ∷ xs) all =
      subst (AllByRecursion P) (sym (reverse-append (x ∷ []) xs))
      (all_both P (reverse xs) (x ∷ []) (all_turned P xs all.1) (all.0, tt))

  -- lists with a front, and an end
  take_front : (front xs ends : List A) (n : ℕ) → n ≤ length xs
      → take (length front + n) (front ++ xs ++ ends) ≡ front ++ take n xs
  take_front [] xs ends n few = ap (λ m. take m (xs ++ ends)) (zero-add n) ∙ take-append-le n xs ends few
  take_front (x ∷ front) xs ends n few =
      ap (λ m. take m (x ∷ front ++ xs ++ ends)) (suc_add (length front) n)
      ∙ ap (λ l. x ∷ l) (take_front front xs ends n few)

  drop_front : (front xs ends : List A) (n : ℕ) → n ≤ length xs
      → drop (length front + n) (front ++ xs ++ ends) ≡ drop n xs ++ ends
  drop_front [] xs ends n few = ap (λ m. drop m (xs ++ ends)) (zero-add n) ∙ drop-append-le n xs ends few
  drop_front (x ∷ front) xs ends n few =
      ap (λ m. drop m (x ∷ front ++ xs ++ ends)) (suc_add (length front) n) ∙ drop_front front xs ends n few

  get_front : (front xs ends : List A) (n : ℕ) → n < length xs
      → slice_get (front ++ xs ++ ends) (length front + n) ≡ slice_get xs n
  get_front [] xs ends n few = ap (slice_get (xs ++ ends)) (zero-add n) ∙ get_left xs ends n few
  get_front (x ∷ front) xs ends n few =
      ap (slice_get (x ∷ front ++ xs ++ ends)) (suc_add (length front) n) ∙ get_front front xs ends n few

  long_all : (front xs ends : List A) → length (front ++ xs ++ ends) ≡ length front + length xs + length ends
  long_all front xs ends = length-append (front ++ xs) ends ∙ ap (λ n. n + length ends) (length-append front xs)

  -- the last items of what is behind some
  left_of_rest : (xs : List A) (b e : ℕ) → b ≤ length xs → e ≤ length xs - b
      → drop (length (drop b xs) - e) (drop b xs) ≡ drop (length xs - e) xs
  left_of_rest xs b e few less =
      let long = length-drop b xs in
      let same : b + (length (drop b xs) - e) ≡ length xs - e = omega (arith, long, few, less) in
      drop-drop (length (drop b xs) - e) b xs ∙ ap (λ n. drop n xs) same

  -- the last item of so many that are common, and the one before these
  get_back : (xs : List A) (b e : ℕ) → e < length xs - b
      → slice_get (reverse (drop b xs)) e ≡ slice_get xs (length xs - e - 1)
  get_back xs b e less =
      let long = length-drop b xs in
      let within : e < length (drop b xs) = omega (arith, long, less) in
      let same : b + (length (drop b xs) - 1 - e) ≡ length xs - e - 1 = omega (arith, long, less) in
      get_turned (drop b xs) e within ∙ get_dropped b (length (drop b xs) - 1 - e) xs ∙ ap (slice_get xs) same

  -- Both lists have the same front, then items of which so many are common, and then the same end, moved.
  module _ (front olds news end : List A) (b e : ℕ) (before : AllByRecursion Before front)
      (behind : AllByRecursion Behind end) (common : AreCommon {A = A} Front olds news b)
      (back : AreCommon {A = A} Back (reverse (drop b olds)) (reverse (drop b news)) e) where
    few : (b ≤ length olds) × (b ≤ length news)
    few = common_few Front olds news b common

    less : (e ≤ length olds - b) × (e ≤ length news - b)
    less =
        let both = common_few Back (reverse (drop b olds)) (reverse (drop b news)) e back in
        let long_olds = length-reverse (drop b olds) ∙ length-drop b olds in
        let long_news = length-reverse (drop b news) ∙ length-drop b news in (
          omega (arith, both.0, long_olds),
          omega (arith, both.1, long_news),
        )

    old_end : ℕ
    old_end = length olds - e

    new_end : ℕ
    new_end = length news - e

    taken_turned : (xs : List A) → b ≤ length xs → e ≤ length xs - b
        → take e (reverse (drop b xs)) ≡ reverse (drop (length xs - e) xs)
    taken_turned xs some fits =
        let long = length-drop b xs in
        let within : e ≤ length (drop b xs) = omega (arith, long, fits) in
        take_turned (drop b xs) e within ∙ ap (λ l. reverse l) (left_of_rest xs b e some fits)

    same_back : map moved (drop (length olds - e) olds) ≡ drop (length news - e) news
    same_back =
        turned_same (map moved (drop (length olds - e) olds)) (drop (length news - e) news)
        (sym (map_turned moved (drop (length olds - e) olds))
        ∙ ap (map moved) (sym (taken_turned olds few.0 less.0))
        ∙ map_common Back moved (λ x y is. is.same) (reverse (drop b olds)) (reverse (drop b news)) e back
        ∙ taken_turned news few.1 less.1)

    all_behind : AllByRecursion Behind (drop (length olds - e) olds)
    all_behind =
        subst (AllByRecursion Behind) (reverse-reverse (drop (length olds - e) olds))
        (all_turned Behind (reverse (drop (length olds - e) olds))
        (subst (AllByRecursion Behind) (taken_turned olds few.0 less.0)
        (all_back (reverse (drop b olds)) (reverse (drop b news)) e back)))

    whole_old : length (front ++ olds ++ end) ≡ length front + length olds + length end
    whole_old = long_all front olds end

    whole_new : length (front ++ news ++ map moved end) ≡ length front + length news + length end
    whole_new =
        long_all front news (map moved end) ∙ ap (λ n. length front + length news + n) (length-map end moved)

    pub change_of_lists : IsChange {A = A} Before Behind moved (front ++ olds ++ end) (front ++ news ++ map moved end)
        (length front + b) (length front + (length olds - e)) (length front + (length news - e))
    change_of_lists = record {
      ordered_old = omega (arith, few.0, less.0);
      few_old = omega (arith, whole_old);
      ordered_new = omega (arith, few.1, less.1);
      few_new = omega (arith, whole_new);
      front =
          take_front front olds end b few.0
          ∙ ap (λ l. front ++ l) (take_common Front (λ x y is. is.same) olds news b common)
          ∙ sym (take_front front news (map moved end) b few.1);
      behind =
          ap (map moved) (drop_front front olds end (length olds - e) (omega arith))
          ∙ map-append moved (drop (length olds - e) olds) end ∙ ap (λ l. l ++ map moved end) same_back
          ∙ sym (drop_front front news (map moved end) (length news - e) (omega arith));
      before_change =
          subst (AllByRecursion Before) (sym (take_front front olds end b few.0))
          (all_both Before front (take b olds) before (all_front olds news b common));
      behind_change =
          subst (AllByRecursion Behind) (sym (drop_front front olds end (length olds - e) (omega arith)))
          (all_both Behind (drop (length olds - e) olds) end all_behind behind);
      no_more_front = λ x some_old some_new at_old at_new is.
          common_ends Front olds news b x x common
          (sym (get_front front olds end b (omega (arith, some_old))) ∙ at_old)
          (sym (get_front front news (map moved end) b (omega (arith, some_new))) ∙ at_new)
          (record { before = is; same = refl });
      no_more_behind = λ x some_old some_new at_old at_new is.
          common_ends Back (reverse (drop b olds)) (reverse (drop b news)) e x (moved x) back
          (at_back olds end x some_old at_old) (at_back news (map moved end) (moved x) some_new at_new)
          (record { behind = is; same = refl });
    }
      where
        at_back : (xs ends : List A) (x : A) → length front + b < length front + (length xs - e)
            → slice_get (front ++ xs ++ ends) (length front + (length xs - e) - 1) ≡ Some x
            → slice_get (reverse (drop b xs)) e ≡ Some x
        at_back xs ends x some at =
            let place : length front + (length xs - e) - 1 ≡ length front + (length xs - e - 1) =
            omega (arith, some) in
            get_back xs b e (omega (arith, some))
            ∙ sym (get_front front xs ends (length xs - e - 1) (omega (arith, some)))
            ∙ ap (slice_get (front ++ xs ++ ends)) (sym place) ∙ at

module _ {A : Type 0} (Before Behind : A → Type 0) (moved : A → A) (index : ℕ) (olds news : List A) (b e : ℕ)
    (r : ChangedRange) where
  -- So many items are common at the front and at the end: what is told of the change then.
  pub range_of : AreCommon (IsSameBefore Before) olds news b
      → AreCommon (IsSameBehind Behind moved) (reverse (drop b olds)) (reverse (drop b news)) e → r.start ≡ index + b
      → r.old_end ≡ index + (length olds - e) → r.new_end ≡ index + (length news - e)
      → IsChangeBetween {A = A} Before Behind moved index olds news r
  range_of common back start_is old_is new_is = λ front later long before behind.
      let first : length front + b ≡ r.start = omega (arith, long, start_is) in
      let old_end : length front + (length olds - e) ≡ r.old_end = omega (arith, long, old_is) in
      let new_end : length front + (length news - e) ≡ r.new_end = omega (arith, long, new_is) in
      let is = change_of_lists {A = A} Before Behind moved front olds news later b e before behind common back in
      subst
      (λ n. IsChange Before Behind moved (front ++ olds ++ later) (front ++ news ++ map moved later) r.start r.old_end n)
      new_end
      (subst
      (λ n. IsChange Before Behind moved (front ++ olds ++ later) (front ++ news ++ map moved later) r.start n
      (length front + (length news - e))) old_end
      (subst
      (λ n. IsChange Before Behind moved (front ++ olds ++ later) (front ++ news ++ map moved later) n
      (length front + (length olds - e)) (length front + (length news - e))) first is))

-- The same, told of parts of the lists, by places that are those of a shift.
pub range_between : {A : Type 0} (EndsBy StartsFrom : ℕ → A → Type 0) (shifted : ℕ → ℕ → A → A)
    (index start end to : ℕ) (olds news : List A) (b e from at : ℕ) (r : ChangedRange)
    → AreCommon (IsSameBefore (EndsBy start)) olds news b
    → AreCommon (IsSameBehind (StartsFrom from) (shifted from at)) (reverse (take (length olds - b) (drop b olds)))
    (reverse (take (length news - b) (drop b news))) e → from ≡ end → at ≡ to → r.start ≡ index + b
    → r.old_end ≡ index + (length olds - e) → r.new_end ≡ index + (length news - e)
    → IsChangeBetween {A = A} (EndsBy start) (StartsFrom end) (shifted end to) index olds news r
range_between {A} EndsBy StartsFrom shifted index start end to olds news b e from at r common back from_is at_is start_is
    old_is new_is =
    range_of {A = A} (EndsBy start) (StartsFrom end) (shifted end to) index olds news b e r common
    (subst (λ xs. AreCommon (IsSameBehind (StartsFrom end) (shifted end to)) (reverse xs) (reverse (drop b news)) e)
    (take_rest olds b)
    (subst (λ xs. AreCommon (IsSameBehind (StartsFrom end) (shifted end to))
    (reverse (take (length olds - b) (drop b olds))) (reverse xs) e) (take_rest news b)
    (subst (λ n. AreCommon (IsSameBehind (StartsFrom end) (shifted end n))
    (reverse (take (length olds - b) (drop b olds))) (reverse (take (length news - b) (drop b news))) e) at_is
    (subst (λ n. AreCommon (IsSameBehind (StartsFrom n) (shifted n at))
    (reverse (take (length olds - b) (drop b olds))) (reverse (take (length news - b) (drop b news))) e) from_is back))))
    start_is old_is new_is
