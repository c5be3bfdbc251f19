-- Numbers in decimal, by their last three digits and those before them.
use Rattle.std.proofs.Common.{◌≡◌, ℕ, ◌+◌, ◌-◌, ◌/◌, ◌%◌, ◌^◌, ◌<◌, ◌≤◌, ◌++◌, List, [], length, get_or, set, drop, arith}
use Rattle.std.proofs.Common.{append_assoc, length-append, length-set, ap, ◌∙◌, eq-zero-or-pos, inl, inr}
use Rattle.std.proofs.lemmas.Fmt.{decimal_step}
use Rattle.std.proofs.lemmas.List.{get_or-set_same, get_or-set_other}
use Rattle.std.specs.Fmt.{decimal}
use Rattle.js_lex_tool.specs.Numbers.{three_digits}

-- The digits of a number are those of its thousands and three more.
pub decimal_thousands : (n : ℕ) → 1000 ≤ n → n < 2 ^ 64 → decimal n ≡ decimal (n / 1000) ++ three_digits (n % 1000)
decimal_thousands n lo hi =
    let a : n / 10 / 10 / 10 ≡ n / 1000 = omega arith in
    let b : n / 10 / 10 % 10 ≡ n % 1000 / 100 = omega arith in
    let c : n / 10 % 10 ≡ n % 1000 / 10 % 10 = omega arith in
    let d : n % 10 ≡ n % 1000 % 10 = omega arith in
    rw (
      decimal_step n (omega arith) hi,
      decimal_step (n / 10) (omega arith) (omega arith),
      decimal_step (n / 10 / 10) (omega arith) (omega arith),
      append_assoc,
      append_assoc,
      a,
      b,
      c,
      d,
    )

-- A number that has the first digits of another, which has none but zeros behind them.
pub decimal_by_first : (n first : ℕ) → 1000 ≤ first → first % 1000 ≡ 0 → first ≤ n → n < first + 1000 → n < 2 ^ 64
    → decimal n ≡ decimal (first / 1000) ++ three_digits (n - first)
decimal_by_first n first lo whole from below hi =
    let a : n / 1000 ≡ first / 1000 = omega arith in
    let b : n % 1000 ≡ n - first = omega arith in
    rw (decimal_thousands n (omega arith) hi, a, b)

pub length_by_first : (n first : ℕ) → 1000 ≤ first → first % 1000 ≡ 0 → first ≤ n → n < first + 1000 → n < 2 ^ 64
    → length (decimal n) ≡ length (decimal (first / 1000)) + 3
length_by_first n first lo whole from below hi =
    ap length (decimal_by_first n first lo whole from below hi)
    ∙ length-append (decimal (first / 1000)) (three_digits (n - first))

-- The list has a place for each number below 1000, and the numbers below this one have their digits there.
abbrev pub DigitsBelow : ℕ → List (List ℕ) → Type 0
DigitsBelow n digits = (length digits ≡ 1000) × ((k : ℕ) → k < n → drop 1 (get_or digits k []) ≡ three_digits k)

below_more : (digits : List (List ℕ)) (n : ℕ) (four : List ℕ) → n < length digits → drop 1 four ≡ three_digits n
    → ((k : ℕ) → k < n → drop 1 (get_or digits k []) ≡ three_digits k)
    → (k : ℕ) → k < n + 1 → drop 1 (get_or (set digits n four) k []) ≡ three_digits k
below_more digits n four room is below k lt =
    elim (eq-zero-or-pos (n - k)) [
      | inl z ↦ let e : k ≡ n = omega arith in rw (e, get_or-set_same digits n four [] room) is
      | inr g ↦
          rw (get_or-set_other digits n k four [] (λ (e : k ≡ n). omega (arith, e))) (below k (omega arith))
    ]

-- One more has them.
pub digits_more : (digits : List (List ℕ)) (n : ℕ) (four : List ℕ) → n < 1000 → drop 1 four ≡ three_digits n
    → DigitsBelow n digits
    → DigitsBelow (n + 1) (set digits n four)
digits_more digits n four low is (room, below) =
    (length-set digits n four ∙ room, below_more digits n four (omega arith) is below)
