-- Lengths in units, and fronts that are no longer than a column.
use Rattle.std.proofs.Common.{◌≡◌, ℕ, ◌+◌, ◌-◌, ◌<◌, ◌≤◌, Bool, true, false, List, [], ◌∷◌, ◌++◌, length, refl, ap, subst}
use Rattle.std.proofs.Common.{arith, leb, ltb, cond, if◌then◌else◌, length-append}
use Rattle.std.specs.Char.{len_utf8, encode_utf8}
use Rattle.std.specs.Str.{encode_utf8_all}
use Rattle.std.proofs.lemmas.Bool.{ltb-true, ltb-false, le-leb, lt-leb}
use Rattle.std.proofs.lemmas.Str.{length-encode, len_utf8_bounds}
use Rattle.js_lines.specs.Columns.{width_in, length_in, front_within, behind_front}
use Rattle.js_lines.specs.declared.columns.ColumnUnit.{ColumnUnit}
use Rattle.js_lines.specs.declared.columns.ColumnUnit.TheVariants.{Bytes, Characters, Utf16Units}

pub bytes_length : (cs : List ℕ) → length_in Bytes cs ≡ length (encode_utf8_all cs)
bytes_length [] = refl
bytes_length (c ∷ cs) =
    omega (arith, bytes_length cs, length-append (encode_utf8 c) (encode_utf8_all cs), length-encode c)

pub length_in-append : (unit : ColumnUnit) (xs ys : List ℕ)
    → length_in unit (xs ++ ys) ≡ length_in unit xs + length_in unit ys
length_in-append unit [] ys = omega arith
length_in-append unit (x ∷ xs) ys = omega (arith, length_in-append unit xs ys)

-- a character has one unit at least, and no more units than bytes
pub width_bounds : (unit : ColumnUnit) (c : ℕ) → (1 ≤ width_in unit c) × (width_in unit c ≤ len_utf8 c)
width_bounds Bytes c = ((len_utf8_bounds c).0, omega arith)
width_bounds Characters c = (omega arith, (len_utf8_bounds c).0)
width_bounds Utf16Units c = by_tests (ltb c 128) (ltb c 2048) (ltb c 0x10000) refl refl refl
  where
    by_tests : (x y z : Bool) → ltb c 128 ≡ x → ltb c 2048 ≡ y → ltb c 0x10000 ≡ z
        → (1 ≤ cond z 1 2) × (cond z 1 2 ≤ cond x 1 (cond y 2 (cond z 3 4)))
    by_tests true y true e f g = (omega arith, omega arith)
    by_tests true y false e f g = absurd (omega (arith, ltb-true c 128 e, ltb-false c 0x10000 g))
    by_tests false true true e f g = (omega arith, omega arith)
    by_tests false true false e f g = (omega arith, omega arith)
    by_tests false false true e f g = (omega arith, omega arith)
    by_tests false false false e f g = (omega arith, omega arith)

pub length_in-le : (unit : ColumnUnit) (cs : List ℕ) → length_in unit cs ≤ length_in Bytes cs
length_in-le unit [] = omega arith
length_in-le unit (c ∷ cs) = omega (arith, length_in-le unit cs, (width_bounds unit c).1)

pub front-le : (unit : ColumnUnit) (n : ℕ) (cs : List ℕ)
    → length_in Bytes (front_within unit n cs) ≤ length_in Bytes cs
front-le unit n [] = omega arith
front-le unit n (c ∷ cs) = by_test (leb (width_in unit c) n) (front-le unit (n - width_in unit c) cs)
  where
    by_test : (b : Bool)
        → length_in Bytes (front_within unit (n - width_in unit c) cs) ≤ length_in Bytes cs
        → length_in Bytes (if b then c ∷ front_within unit (n - width_in unit c) cs else [])
        ≤ len_utf8 c + length_in Bytes cs
    by_test true le = omega (arith, le)
    by_test false le = omega arith

-- the next of the characters is longer than n
abbrev pub IsTooLong : ColumnUnit → ℕ → List ℕ → Type 0
IsTooLong unit n [] = Unit {0}
IsTooLong unit n (c ∷ cs) = n < width_in unit c

pub front_step : (unit : ColumnUnit) (n c : ℕ) (cs : List ℕ) → width_in unit c ≤ n
    → (front_within unit n (c ∷ cs) ≡ c ∷ front_within unit (n - width_in unit c) cs)
    × (behind_front unit n (c ∷ cs) ≡ behind_front unit (n - width_in unit c) cs)
front_step unit n c cs le = let fits : leb (width_in unit c) n ≡ true = le-leb _ _ le in rw fits (refl, refl)

pub front_stops : (unit : ColumnUnit) (n : ℕ) (cs : List ℕ) → IsTooLong unit n cs
    → (front_within unit n cs ≡ []) × (behind_front unit n cs ≡ cs)
front_stops unit n [] long = (refl, refl)
front_stops unit n (c ∷ cs) long = let fails : leb (width_in unit c) n ≡ false = lt-leb _ _ long in rw fails (refl, refl)

pub front_is : (unit : ColumnUnit) (n : ℕ) (xs ys : List ℕ) → length_in unit xs ≤ n
    → IsTooLong unit (n - length_in unit xs) ys
    → (front_within unit n (xs ++ ys) ≡ xs) × (behind_front unit n (xs ++ ys) ≡ ys)
front_is unit n [] ys le long =
    front_stops unit n ys (let same : n - 0 ≡ n = omega arith in subst (λ k. IsTooLong unit k ys) same long)
front_is unit n (x ∷ xs) ys le long =
    let same : n - (width_in unit x + length_in unit xs) ≡ (n - width_in unit x) - length_in unit xs = omega arith in
    let more =
    front_is unit (n - width_in unit x) xs ys (omega arith) (subst (λ k. IsTooLong unit k ys) same long) in
    let here = front_step unit n x (xs ++ ys) (omega arith) in
    (rw here.0 (ap (λ zs. x ∷ zs) more.0), rw here.1 more.1)

pub front_behind : (unit : ColumnUnit) (n : ℕ) (cs : List ℕ)
    → front_within unit n cs ++ behind_front unit n cs ≡ cs
front_behind unit n [] = refl
front_behind unit n (c ∷ cs) = by_test (leb (width_in unit c) n) (front_behind unit (n - width_in unit c) cs)
  where
    by_test : (b : Bool)
        → front_within unit (n - width_in unit c) cs ++ behind_front unit (n - width_in unit c) cs ≡ cs
        → (if b then c ∷ front_within unit (n - width_in unit c) cs else [])
        ++ (if b then behind_front unit (n - width_in unit c) cs else c ∷ cs)
        ≡ c ∷ cs
    by_test true more = ap (λ zs. c ∷ zs) more
    by_test false more = refl
