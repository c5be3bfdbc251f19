-- Keys of names.
use Rattle.std.proofs.Common.{◌≡◌, ◌+◌, ◌-◌, ◌*◌, ◌^◌, ◌%◌, ◌/◌, ◌≤◌, ◌<◌, ℕ, zero, suc, bit_and, lit<, arith}
use Rattle.std.proofs.Common.{List, [], ◌∷◌, length, map, take, drop, get_or, length-drop}
use Rattle.std.proofs.Common.{◌⊎◌, inl, inr, refl, sym, ◌∙◌, ap, subst}
use Rattle.std.proofs.lemmas.Nat.{and_mask, mod-pow-add, pow-add, pow_pos}
use Rattle.std.proofs.lemmas.List.{take-take, take_all, length-take, get_or-drop}
use Rattle.std.proofs.lemmas.Bool.{cases_lt}
use Rattle.std.proofs.Math.Nat.{mod-one, zero-mod, min-eq_left, min-eq_right, min-le_left}
use Rattle.std.proofs.Math.Seq.{drop-cons}
use Rattle.std.proofs.Math.ListN.{get_or-map}
use Rattle.std.proofs.lemmas.List.FromFn.{get_or-range_with_len}
use Rattle.std.specs.Prelude.{min}
use Rattle.std.specs.List.{range_with_len}
use Rattle.std.proofs.Math.Pow.{mod-mod-pow}
use Rattle.js_kind.specs.Keywords.{bytes_number, key_of, mask}

-- each number of the list is a byte
abbrev pub AreBytes : List ℕ → Type 0
AreBytes bs = (i : ℕ) → get_or bs i 0 < 256

-- The bytes from a place on are bytes.
pub are_bytes_from : (bs : List ℕ) (from : ℕ) → AreBytes bs → AreBytes (drop from bs)
are_bytes_from bs from are i = subst (λ b. b < 256) (sym (get_or-drop from bs i 0)) (are (from + i))

-- So are those up to a place.
pub are_bytes_to : (bs : List ℕ) (to : ℕ) → AreBytes bs → AreBytes (take to bs)
are_bytes_to [] zero are i = lit< tt
are_bytes_to [] (suc to) are i = lit< tt
are_bytes_to (b ∷ bs) zero are i = lit< tt
are_bytes_to (b ∷ bs) (suc to) are zero = are 0
are_bytes_to (b ∷ bs) (suc to) are (suc i) = are_bytes_to bs to (λ k. are (suc k)) i

-- Equal numbers have equal bytes.
pub same_bytes : (xs ys : List ℕ) → AreBytes xs → AreBytes ys → length xs ≡ length ys
    → bytes_number xs ≡ bytes_number ys → xs ≡ ys
same_bytes [] [] bx by count same = refl
same_bytes [] (y ∷ ys) bx by count same = absurd (omega (arith, count))
same_bytes (x ∷ xs) [] bx by count same = absurd (omega (arith, count))
same_bytes (x ∷ xs) (y ∷ ys) bx by count same =
    let hx : x < 256 = bx 0 in
    let hy : y < 256 = by 0 in
    let first : x ≡ y = omega arith in
    let rest : xs ≡ ys =
    same_bytes xs ys (λ i. bx (suc i)) (λ i. by (suc i)) (omega (arith, count)) (omega (arith, same, hx, hy)) in
    cc

-- The number of so many bytes is small.
pub number_small : (n : ℕ) (bs : List ℕ) → AreBytes bs → length bs ≤ n → bytes_number bs < 2 ^ (8 * n)
number_small n [] are h = pow_pos (8 * n)
number_small zero (b ∷ bs) are h = absurd (omega (arith, h))
number_small (suc n) (b ∷ bs) are h =
    let rest : bytes_number bs < 2 ^ (8 * n) = number_small n bs (λ i. are (suc i)) (omega (arith, h)) in
    let byte : b < 256 = are 0 in
    let power : 2 ^ (8 * suc n) ≡ 2 ^ (8 * n) * 256 = ap (λ a. 2 ^ a) (omega arith) ∙ pow-add 2 (8 * n) 8 in
    omega arith

-- The number of the first bytes is the low bits of that of all.
number_take : (n : ℕ) (bs : List ℕ) → AreBytes bs → bytes_number (take n bs) ≡ bytes_number bs % 2 ^ (8 * n)
number_take zero bs are = sym (mod-one (bytes_number bs))
number_take (suc n) [] are = sym (zero-mod (2 ^ (8 * suc n)))
number_take (suc n) (b ∷ bs) are =
    let byte : b < 256 = are 0 in
    let rest : bytes_number (take n bs) ≡ bytes_number bs % 2 ^ (8 * n) = number_take n bs (λ i. are (suc i)) in
    let power : 2 ^ (8 * suc n) ≡ 2 ^ (8 * n + 8) = ap (λ a. 2 ^ a) (omega arith) in
    let split = mod-pow-add (b + 256 * bytes_number bs) (8 * n) 8 in
    let high : (b + 256 * bytes_number bs) / 2 ^ 8 ≡ bytes_number bs = omega arith in
    let low : (b + 256 * bytes_number bs) % 2 ^ 8 ≡ b = omega arith in
    rw (rest, power, split, high, low) (omega arith)

-- What a table of masks has at a length.
pub mask_at : (masks : List ℕ) (n : ℕ) → masks ≡ map mask (range_with_len 0 12) → n < 12 → get_or masks n 0 ≡ mask n
mask_at masks n is h =
    ap (λ xs. get_or xs n 0) is
    ∙ get_or-map mask (range_with_len 0 12) n 0
    ∙ ap mask (get_or-range_with_len 0 12 n 0 h ∙ omega arith)

-- a slice that goes to the end
pub to_end : (bs : List ℕ) (from : ℕ) → take (length bs - from) (drop from bs) ≡ drop from bs
to_end bs from = take_all (length bs - from) (drop from bs) (omega (arith, length-drop from bs))

-- A key is masked to the key of a shorter text.
pub masked : (bs : List ℕ) (n : ℕ) → AreBytes bs → bit_and (key_of bs) (mask n) ≡ key_of (take n bs)
masked bs n are =
    and_mask (key_of bs) (8 * min n 8)
    ∙ ap (λ key. key % 2 ^ (8 * min n 8)) (number_take 8 bs are)
    ∙ by_length (cases_lt n 8)
  where
    by_length : (n < 8) ⊎ (8 ≤ n) → bytes_number bs % 2 ^ 64 % 2 ^ (8 * min n 8) ≡ key_of (take n bs)
    by_length (inl short) =
        let least : min n 8 ≡ n = min-eq_left (omega arith) in
        let bits : 64 ≡ (64 - 8 * n) + 8 * n = omega arith in
        let within : length (take n bs) ≤ 8 = omega (arith, length-take n bs, min-le_left n (length bs)) in
        ap (λ a. bytes_number bs % 2 ^ 64 % 2 ^ (8 * a)) least
        ∙ ap (λ a. bytes_number bs % 2 ^ a % 2 ^ (8 * n)) bits
        ∙ mod-mod-pow (bytes_number bs) (64 - 8 * n) (8 * n)
        ∙ sym (number_take n bs are)
        ∙ ap bytes_number (sym (take_all 8 (take n bs) within))
    by_length (inr long) =
        ap (λ a. bytes_number bs % 2 ^ 64 % 2 ^ (8 * a)) (min-eq_right long)
        ∙ mod-mod-pow (bytes_number bs) 0 64
        ∙ sym (number_take 8 bs are)
        ∙ ap bytes_number (sym (take-take 8 n bs long))

-- A few bytes have a number that has room for one more.
pub few_small : (bs : List ℕ) (from : ℕ) → AreBytes bs → length bs < 8 → bytes_number (drop from bs) < 2 ^ 56
few_small bs from are h =
    number_small 7 (drop from bs) (are_bytes_from bs from are) (omega (arith, length-drop from bs))

-- One more byte in front.
pub one_more : (bs : List ℕ) (i left key : ℕ) → left ≡ i + 1 → left ≤ length bs → key ≡ bytes_number (drop left bs)
    → key * 256 + get_or bs i 0 ≡ bytes_number (drop i bs)
one_more bs i left key at within is =
    let front : drop i bs ≡ get_or bs i 0 ∷ drop (suc i) bs = drop-cons bs i 0 (omega arith) in
    let next : left ≡ suc i = omega arith in
    let rest : key ≡ bytes_number (drop (suc i) bs) = is ∙ ap (λ n. bytes_number (drop n bs)) next in
    let whole = ap bytes_number front in
    omega arith
