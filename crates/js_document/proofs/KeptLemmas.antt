-- Rows that are kept, where they stand in the order of their places.
use Rattle.std.proofs.Common.{◌≡◌, ℕ, zero, suc, ◌+◌, ◌-◌, ◌<◌, ◌≤◌, List, [], ◌∷◌, ◌++◌, length, refl, sym, ◌∙◌, ap, arith}
use Rattle.std.proofs.Common.{length-append, Some}
use Rattle.std.specs.List.{AllByRecursion}
use Rattle.std.specs.Prelude.{slice_get}
use Rattle.std.proofs.lemmas.List.{map-append}
use Rattle.js_session.specs.declared.row.Row.{Row}
use Rattle.js_document.specs.declared.gap.Entry.{Entry}
use Rattle.js_document.specs.Documents.{IsKept}
use Rattle.js_document.specs.Gap.{AreInOrder, ComesLater, rows_of}
use Rattle.js_document.proofs.ListLemmas.{each_there, get_right, get_there}

-- the row ends four bytes or more before the place
abbrev pub Before : ℕ → Row → Type 0
Before start row = row.token.end + 4 ≤ start

pub all_last : {A : Type 0} (P : A → Type 0) (xs : List A) (x : A) → AllByRecursion P (xs ++ x ∷ []) → P x
all_last P [] x all = all.0
all_last P (y ∷ ys) x all = all_last P ys x all.1

pub all_first : {A : Type 0} (P : A → Type 0) (xs ys : List A) → AllByRecursion P (xs ++ ys) → AllByRecursion P xs
all_first P [] ys all = tt
all_first P (x ∷ xs) ys all = (all.0, all_first P xs ys all.1)

pub all_rest : {A : Type 0} (P : A → Type 0) (xs ys : List A) → AllByRecursion P (xs ++ ys) → AllByRecursion P ys
all_rest P [] ys all = all
all_rest P (x ∷ xs) ys all = all_rest P xs ys all.1

pub all_joined : {A : Type 0} (P : A → Type 0) (xs ys : List A) → AllByRecursion P xs → AllByRecursion P ys
    → AllByRecursion P (xs ++ ys)
all_joined P [] ys all more = more
all_joined P (x ∷ xs) ys all more = (all.0, all_joined P xs ys all.1 more)

pub order_first : (xs ys : List Row) → AreInOrder (xs ++ ys) → AreInOrder xs
order_first [] ys order = tt
order_first (x ∷ xs) ys order =
    (all_first (λ (later : Row). ComesLater x.token later.token) xs ys order.0, order_first xs ys order.1)

pub order_rest : (xs ys : List Row) → AreInOrder (xs ++ ys) → AreInOrder ys
order_rest [] ys order = order
order_rest (x ∷ xs) ys order = order_rest xs ys order.1

-- The last of some items.
pub record IsEndedBy {A : Type 0} (xs : List A) (last : A) : Type 0 where
  pub before : List A
  pub is : xs ≡ before ++ last ∷ []

pub ended_by : {A : Type 0} (xs : List A) (last : A) → slice_get xs (length xs - 1) ≡ Some last
    → IsEndedBy {A = A} xs last
ended_by [] last is = absurd (cc)
ended_by (x ∷ []) last is = record { before = []; is = (let same : x ≡ last = cc in ap (λ y. y ∷ []) same) }
ended_by (x ∷ y ∷ ys) last is =
    let place : length (x ∷ y ∷ ys) - 1 ≡ suc (length (y ∷ ys) - 1) = omega arith in
    let more = ended_by (y ∷ ys) last (ap (slice_get (x ∷ y ∷ ys)) (sym place) ∙ is) in
    record { before = x ∷ more.before; is = ap (λ l. x ∷ l) more.is }

pub last_is : {A : Type 0} (before : List A) (last : A)
    → slice_get (before ++ last ∷ []) (length (before ++ last ∷ []) - 1) ≡ Some last
last_is before last =
    let long = length-append before (last ∷ []) in
    let place : length (before ++ last ∷ []) - 1 ≡ length before + 0 = omega (arith, long) in
    ap (slice_get (before ++ last ∷ [])) place ∙ get_right before (last ∷ []) 0

pub rows_joined : {K : Type 0} (xs ys : List (Entry K))
    → rows_of {K = K} (xs ++ ys) ≡ rows_of {K = K} xs ++ rows_of {K = K} ys
rows_joined {K} xs ys = map-append (λ (e : Entry K). e.row) xs ys

-- Of rows in order so many are kept, of which the last one ends before the place, where the next one does not.
pub kept_of : (start : ℕ) (rows : List Row) (kept : ℕ) → AreInOrder rows → kept ≤ length rows
    → ((row : Row) → 0 < kept → slice_get rows (kept - 1) ≡ Some row → Before start row)
    → ((row : Row) → slice_get rows kept ≡ Some row → Before start row → ⊥) → IsKept start rows kept
kept_of start [] kept order few last next = omega (arith, few)
kept_of start (row ∷ rows) zero order few last next = next row refl
kept_of start (row ∷ rows) (suc kept) order few last next =
    (here kept refl, kept_of start rows kept order.1 (omega (arith, few)) last_behind next)
  where
    last_behind : (other : Row) → 0 < kept → slice_get rows (kept - 1) ≡ Some other → Before start other
    last_behind other some at =
        last other (omega arith)
        (ap (slice_get (row ∷ rows)) (let place : suc kept - 1 ≡ suc (kept - 1) = omega (arith, some) in place) ∙ at)

    here : (n : ℕ) → kept ≡ n → Before start row
    here zero is =
        last row (omega arith)
        (ap (slice_get (row ∷ rows)) (let place : suc kept - 1 ≡ 0 = omega (arith, is) in place))
    here (suc n) is =
        let it = get_there rows n (omega (arith, is, few)) in
        let place : n ≡ kept - 1 = omega (arith, is) in
        let before = last_behind it.0 (omega (arith, is)) (ap (slice_get rows) (sym place) ∙ it.1) in
        let later = each_there (λ (later : Row). ComesLater row.token later.token) rows n it.0 order.0 it.1 in
        let ends = later.ends in
        omega (arith, before, ends)

-- and they are no more than there are
pub kept_few : (start : ℕ) (rows : List Row) (kept : ℕ) → IsKept start rows kept → kept ≤ length rows
kept_few start [] kept is = omega (arith, is)
kept_few start (row ∷ rows) zero is = omega arith
kept_few start (row ∷ rows) (suc kept) is = (let more = kept_few start rows kept is.1 in omega (arith, more))
