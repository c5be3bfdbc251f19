-- Items of lists that are put together, or turned.
use Rattle.std.proofs.Common.{◌≡◌, ℕ, zero, suc, ◌+◌, ◌-◌, ◌<◌, ◌≤◌, List, [], ◌∷◌, ◌++◌, length, map, take, drop, refl}
use Rattle.std.proofs.Common.{Bool, true, false, leb, sym, ◌∙◌, ap, subst, arith, append-nil, zero-add, Some}
use Rattle.std.specs.List.{AllByRecursion}
use Rattle.std.proofs.lemmas.Bool.{leb-false, leb-true}
use Rattle.std.specs.Prelude.{reverse, slice_get}
use Rattle.std.proofs.lemmas.List.{drop_all, length-drop, length-reverse, map-append, reverse-append, reverse-reverse}
use Rattle.std.proofs.lemmas.List.{take_all, take-append-drop, take_at}

pub suc_add : (n m : ℕ) → suc n + m ≡ suc (n + m)
suc_add n m = omega arith

-- the items of lists that are put together
pub get_left : {A : Type 0} (xs ys : List A) (n : ℕ) → n < length xs → slice_get (xs ++ ys) n ≡ slice_get xs n
get_left [] ys n less = absurd (omega (arith, less))
get_left (x ∷ xs) ys zero less = refl
get_left (x ∷ xs) ys (suc n) less = get_left xs ys n (omega (arith, less))

pub get_right : {A : Type 0} (xs ys : List A) (n : ℕ) → slice_get (xs ++ ys) (length xs + n) ≡ slice_get ys n
get_right [] ys n = ap (slice_get ys) (zero-add n)
get_right (x ∷ xs) ys n =
    ap (slice_get (x ∷ xs ++ ys)) (suc_add (length xs) n) ∙ get_right xs ys n

pub get_dropped : {A : Type 0} (n m : ℕ) (xs : List A) → slice_get (drop n xs) m ≡ slice_get xs (n + m)
get_dropped zero m xs = ap (slice_get xs) (sym (zero-add m))
get_dropped (suc n) m [] = refl
get_dropped (suc n) m (x ∷ xs) = get_dropped n m xs ∙ ap (slice_get (x ∷ xs)) (sym (suc_add n m))

pub get_within : {A : Type 0} (xs : List A) (n : ℕ) (x : A) → slice_get xs n ≡ Some x → n < length xs
get_within [] n x is = absurd (cc)
get_within (y ∷ ys) zero x is = omega arith
get_within (y ∷ ys) (suc n) x is = let more = get_within ys n x is in omega (arith, more)

-- the first items of a list that is turned are its last ones, turned
pub take_turned : {A : Type 0} (xs : List A) (n : ℕ) → n ≤ length xs
    → take n (reverse xs) ≡ reverse (drop (length xs - n) xs)
take_turned {A} xs n few =
    let cut = length xs - n in
    let whole : reverse xs ≡ reverse (drop cut xs) ++ reverse (take cut xs) =
    ap (λ l. reverse l) (sym (take-append-drop cut xs)) ∙ reverse-append (take cut xs) (drop cut xs) in
    let long : length (reverse (drop cut xs)) ≡ n =
    length-reverse (drop cut xs) ∙ length-drop cut xs ∙ omega (arith, few) in
    ap (take n) whole ∙ take_at (reverse (drop cut xs)) (reverse (take cut xs)) n long

pub map_turned : {A B : Type 0} (f : A → B) (xs : List A) → map f (reverse xs) ≡ reverse (map f xs)
map_turned f [] = refl
map_turned f (x ∷ xs) =
    ap (map f) (reverse-append (x ∷ []) xs) ∙ map-append f (reverse xs) (x ∷ [])
    ∙ ap (λ l. l ++ f x ∷ []) (map_turned f xs) ∙ sym (reverse-append (f x ∷ []) (map f xs))

pub turned_same : {A : Type 0} (xs ys : List A) → reverse xs ≡ reverse ys → xs ≡ ys
turned_same xs ys e = sym (reverse-reverse xs) ∙ ap (λ l. reverse l) e ∙ reverse-reverse ys

one_less : (m n : ℕ) → n < m → suc (m - 1 - n) ≡ suc m - 1 - n
one_less m n less = omega (arith, less)

-- the item of a list that is turned
pub get_turned : {A : Type 0} (xs : List A) (n : ℕ) → n < length xs
    → slice_get (reverse xs) n ≡ slice_get xs (length xs - 1 - n)
get_turned [] n less = absurd (omega (arith, less))
get_turned {A} (x ∷ xs) n less =
    ap (λ l. slice_get l n) (reverse-append (x ∷ []) xs)
    ∙ by_place (leb (suc n) (length xs)) refl (λ within. get_turned xs n within)
  where
    long : length (reverse xs) ≡ length xs
    long = length-reverse xs

    by_place : (b : Bool) → leb (suc n) (length xs) ≡ b
        → (n < length xs → slice_get (reverse xs) n ≡ slice_get xs (length xs - 1 - n))
        → slice_get (reverse xs ++ x ∷ []) n ≡ slice_get (x ∷ xs) (length (x ∷ xs) - 1 - n)
    by_place true e more =
        let within = leb-true (suc n) (length xs) e in
        get_left (reverse xs) (x ∷ []) n (omega (arith, long, within)) ∙ more (omega (arith, within))
        ∙ ap (slice_get (x ∷ xs)) (one_less (length xs) n (omega (arith, within)))
    by_place false e more =
        let past = leb-false (suc n) (length xs) e in
        let last : n ≡ length xs = omega (arith, past, less) in
        let at : n ≡ length (reverse xs) + 0 = omega (arith, last, long) in
        let first : 0 ≡ length (x ∷ xs) - 1 - n = omega (arith, last) in
        ap (slice_get (reverse xs ++ x ∷ [])) at ∙ get_right (reverse xs) (x ∷ []) 0 ∙ ap (slice_get (x ∷ xs)) first

-- the item of a list's first items
pub get_taken : {A : Type 0} (m n : ℕ) (xs : List A) → n < m → slice_get (take m xs) n ≡ slice_get xs n
get_taken zero n xs less = absurd (omega (arith, less))
get_taken (suc m) n [] less = refl
get_taken (suc m) zero (x ∷ xs) less = refl
get_taken (suc m) (suc n) (x ∷ xs) less = get_taken m n xs (omega (arith, less))

-- what an item of a list is made of, and what it becomes
pub get_mapped : {A B : Type 0} (f : A → B) (xs : List A) (n : ℕ) (y : B) → slice_get (map f xs) n ≡ Some y
    → (x : A) × (slice_get xs n ≡ Some x) × (f x ≡ y)
get_mapped f [] n y at = absurd (cc)
get_mapped f (x ∷ xs) zero y at = (x, refl, (let same : f x ≡ y = cc in same))
get_mapped f (x ∷ xs) (suc n) y at = get_mapped f xs n y at

pub put_mapped : {A B : Type 0} (f : A → B) (xs : List A) (n : ℕ) (x : A) → slice_get xs n ≡ Some x
    → slice_get (map f xs) n ≡ Some (f x)
put_mapped f [] n x at = absurd (cc)
put_mapped f (y ∷ ys) zero x at = (let same : y ≡ x = cc in ap (λ z. Some (f z)) same)
put_mapped f (y ∷ ys) (suc n) x at = put_mapped f ys n x at

-- an item that there is
pub get_there : {A : Type 0} (xs : List A) (n : ℕ) → n < length xs → (x : A) × (slice_get xs n ≡ Some x)
get_there [] n less = absurd (omega (arith, less))
get_there (x ∷ xs) zero less = (x, refl)
get_there (x ∷ xs) (suc n) less = get_there xs n (omega (arith, less))

-- the items from one of them on, and those up to it
pub drop_at_item : {A : Type 0} (xs : List A) (n : ℕ) (x : A) → slice_get xs n ≡ Some x → drop n xs ≡ x ∷ drop (suc n) xs
drop_at_item [] n x at = absurd (cc)
drop_at_item (y ∷ ys) zero x at = (let same : y ≡ x = cc in ap (λ z. z ∷ ys) same)
drop_at_item (y ∷ ys) (suc n) x at = drop_at_item ys n x at

pub take_at_item : {A : Type 0} (xs : List A) (n : ℕ) (x : A) → slice_get xs n ≡ Some x
    → take (suc n) xs ≡ take n xs ++ x ∷ []
take_at_item [] n x at = absurd (cc)
take_at_item (y ∷ ys) zero x at = (let same : y ≡ x = cc in ap (λ z. z ∷ []) same)
take_at_item (y ∷ ys) (suc n) x at = ap (λ l. y ∷ l) (take_at_item ys n x at)

-- the first items of lists that are put together
pub take_past : {A : Type 0} (xs ys : List A) (n : ℕ) → take (length xs + n) (xs ++ ys) ≡ xs ++ take n ys
take_past [] ys n = ap (λ m. take m ys) (zero-add n)
take_past (x ∷ xs) ys n =
    ap (λ m. take m (x ∷ xs ++ ys)) (suc_add (length xs) n) ∙ ap (λ l. x ∷ l) (take_past xs ys n)

-- what holds of all items
pub each_there : {A : Type 0} (P : A → Type 0) (xs : List A) (n : ℕ) (x : A) → AllByRecursion P xs
    → slice_get xs n ≡ Some x → P x
each_there P [] n x all at = absurd (cc)
each_there P (y ∷ ys) zero x all at = (let same : y ≡ x = cc in subst P same all.0)
each_there P (y ∷ ys) (suc n) x all at = each_there P ys n x all.1 at

pub all_dropped : {A : Type 0} (P : A → Type 0) (n : ℕ) (xs : List A) → AllByRecursion P xs → AllByRecursion P (drop n xs)
all_dropped P zero xs all = all
all_dropped P (suc n) [] all = tt
all_dropped P (suc n) (x ∷ xs) all = all_dropped P n xs all.1

pub all_taken : {A : Type 0} (P : A → Type 0) (n : ℕ) (xs : List A) → AllByRecursion P xs → AllByRecursion P (take n xs)
all_taken P zero xs all = tt
all_taken P (suc n) [] all = tt
all_taken P (suc n) (x ∷ xs) all = (all.0, all_taken P n xs all.1)

pub all_mapped : {A B : Type 0} (P : A → Type 0) (Q : B → Type 0) (f : A → B) → ((x : A) → P x → Q (f x)) → (xs : List A)
    → AllByRecursion P xs → AllByRecursion Q (map f xs)
all_mapped P Q f each [] all = tt
all_mapped P Q f each (x ∷ xs) all = (each x all.0, all_mapped P Q f each xs all.1)

pub all_pushed : {A : Type 0} (P : A → Type 0) (xs : List A) (x : A) → AllByRecursion P xs → P x
    → AllByRecursion P (xs ++ x ∷ [])
all_pushed P [] x all here = (here, tt)
all_pushed P (y ∷ ys) x all here = (all.0, all_pushed P ys x all.1 here)

pub all_reversed : {A : Type 0} (P : A → Type 0) (xs : List A) → AllByRecursion P xs → AllByRecursion P (reverse xs)
all_reversed P [] all = tt
all_reversed P (x ∷ xs) all =
    subst (AllByRecursion P) (sym (reverse-append (x ∷ []) xs))
    (all_pushed P (reverse xs) x (all_reversed P xs all.1) all.0)

pub none_taken : {A : Type 0} (n : ℕ) → ◌≡◌ {A = List A} [] (take n [])
none_taken zero = refl
none_taken (suc n) = refl

-- the first items of a list, and those behind them
pub take_parts : {A : Type 0} (xs : List A) (m n : ℕ) → m ≤ n → take n xs ≡ take m xs ++ take (n - m) (drop m xs)
take_parts xs zero n less = ap (λ k. take k xs) (let same : n ≡ n - 0 = omega arith in same)
take_parts xs (suc m) zero less = absurd (omega (arith, less))
take_parts {A} [] (suc m) (suc n) less = none_taken {A = A} (suc n - suc m)
take_parts (x ∷ xs) (suc m) (suc n) less =
    let same : n - m ≡ suc n - suc m = omega arith in
    ap (λ l. x ∷ l) (take_parts xs m n (omega (arith, less)))
    ∙ ap (λ k. x ∷ take m xs ++ take k (drop m xs)) same

-- what a list is behind a part of it that was lent whole
pub lent : {A : Type 0} (len : ℕ) (new old : List A) → len ≡ length old → length new ≡ length old
    → take len (new ++ drop (length new) old) ≡ new
lent len new old len_is same =
    ap (λ rest. take len (new ++ rest)) (drop_all (length new) old (omega (arith, same)))
    ∙ ap (take len) (append-nil new) ∙ take_all len new (omega (arith, len_is, same))
