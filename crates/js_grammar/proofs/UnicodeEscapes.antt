-- Laws of unicode escapes.
use Rattle.std.proofs.Common.{◌≡◌, ℕ, zero, suc, ◌+◌, ◌*◌, ◌<◌, ◌≤◌, Bool, true, false, not, ◌==◌, ◌&&◌, List}
use Rattle.std.proofs.Common.{[]}
use Rattle.std.proofs.Common.{◌∷◌, ◌++◌, length, take, drop, refl, ap, arith, Some, None}
use Rattle.std.specs.Prelude.{codes, nat_lt, nat_le}
use Rattle.std.specs.Char.{digit_value}
use Rattle.std.specs.Str.Parse.{AllDigits, digits_value}
use Rattle.std.proofs.lemmas.Bool.{ltb-true, eq-eqb}
use Rattle.std.proofs.lemmas.Bool.Decides.{nat_tests}
use Rattle.js_text.specs.Characters.{begins, before_first}
use Rattle.js_kind.specs.Digits.{is_digit_of}
use Rattle.js_grammar.specs.UnicodeEscape.{hex_digits, four_digits, braced_digits, unicode_escape}
use Rattle.js_grammar.specs.UnicodeEscape.{digits_of_code_point, last_code_point, left_curly_bracket}
use Rattle.js_grammar.specs.UnicodeEscape.{right_curly_bracket}

-- a digit by its value
pub digit_below : (radix c : ℕ) → digit_value c < radix → is_digit_of radix c ≡ true
unfolding is_digit_of
digit_below radix c h = grind (arith, nat_tests)

pub below_digit : (radix c : ℕ) → is_digit_of radix c ≡ true → digit_value c < radix
unfolding is_digit_of
below_digit radix c e = ltb-true (digit_value c) radix e

-- digits, and no further one where more may be taken
pub digits_taken : (radix most : ℕ) (xs ys : List ℕ) → AllDigits radix xs → length xs ≤ most
    → (length xs < most → begins (is_digit_of radix) ys ≡ false)
    → before_first (λ c. not (is_digit_of radix c)) (take most (xs ++ ys)) ≡ xs
digits_taken radix zero [] ys all within end = refl
digits_taken radix zero (x ∷ xs) ys all within end = absurd (omega arith)
digits_taken radix (suc most) [] [] all within end = refl
digits_taken radix (suc most) [] (y ∷ ys) all within end = rw (end (omega arith)) refl
digits_taken radix (suc most) (x ∷ xs) ys all within end =
    rw (digit_below radix x all.0)
    (ap (λ t. x ∷ t) (digits_taken radix most xs ys all.1 (omega arith) (λ h. end (omega arith))))

pub behind : (xs ys : List ℕ) → drop (length xs) (xs ++ ys) ≡ ys
behind [] ys = refl
behind (x ∷ xs) ys = behind xs ys

-- as many digits as are to be there
pub all_hex_digits : (count : ℕ) (xs ys : List ℕ) → AllDigits 16 xs → length xs ≡ count
    → hex_digits count (xs ++ ys) ≡ record { text = xs; code_point = Some (digits_value 16 xs); rest = ys }
all_hex_digits count xs ys all e =
    rw (
      digits_taken 16 count xs ys all (omega arith) (λ h. absurd (omega arith)),
      eq-eqb (length xs) count e,
      behind
          xs ys,
    )
    refl

-- fewer
pub some_hex_digits : (count : ℕ) (xs ys : List ℕ) → AllDigits 16 xs → length xs < count
    → begins (is_digit_of 16) ys ≡ false
    → hex_digits count (xs ++ ys) ≡ record { text = xs; code_point = None; rest = ys }
some_hex_digits count xs ys all h end =
    let fewer : (length xs == count) ≡ false = grind (arith, nat_tests) in
    rw (digits_taken 16 count xs ys all (omega arith) (λ more. end), fewer, behind xs ys) refl

-- four of them, or braces
pub without_brace : (text : List ℕ) → begins (λ c. c == left_curly_bracket) text ≡ false
    → unicode_escape text ≡ hex_digits 4 text
unfolding unicode_escape four_digits
without_brace text e = rw e refl

pub behind_brace : (text : List ℕ) → unicode_escape (left_curly_bracket ∷ text) ≡ braced_digits text
unfolding unicode_escape
behind_brace text = refl

-- how the digits of a code point go on
pub no_more_digits : (value : ℕ) (text : List ℕ) → begins (is_digit_of 16) text ≡ false
    → digits_of_code_point value text ≡ []
unfolding digits_of_code_point
no_more_digits value [] e = refl
no_more_digits value (c ∷ cs) e = rw e refl

pub one_more_digit : (value c : ℕ) (cs : List ℕ) → is_digit_of 16 c ≡ true
    → value * 16 + digit_value c ≤ last_code_point
    → digits_of_code_point value (c ∷ cs) ≡ c ∷ digits_of_code_point (value * 16 + digit_value c) cs
unfolding digits_of_code_point
one_more_digit value c cs e h =
    let small : nat_lt last_code_point (value * 16 + digit_value c) ≡ false = grind (arith, nat_tests) in
    rw (e, small) refl

pub last_digit : (value c : ℕ) (cs : List ℕ) → is_digit_of 16 c ≡ true
    → last_code_point < value * 16 + digit_value c
    → digits_of_code_point value (c ∷ cs) ≡ c ∷ []
unfolding digits_of_code_point
last_digit value c cs e h =
    let large : nat_lt last_code_point (value * 16 + digit_value c) ≡ true = grind (arith, nat_tests) in
    rw (e, large) refl

-- digits in braces, whose number is no greater than the last code point
pub braced_whole : (xs ys : List ℕ) → digits_of_code_point 0 (xs ++ (right_curly_bracket ∷ ys)) ≡ xs → 0 < length xs
    → digits_value 16 xs ≤ last_code_point
    → braced_digits (xs ++ (right_curly_bracket ∷ ys))
    ≡ record { text = codes "{" ++ xs ++ codes "}"; code_point = Some (digits_value 16 xs); rest = ys }
unfolding braced_digits
braced_whole xs ys e some small =
    let one : nat_lt 0 (length xs) ≡ true = grind (arith, nat_tests) in
    let within : nat_le (digits_value 16 xs) last_code_point ≡ true = grind (arith, nat_tests) in
    rw (e, behind xs (right_curly_bracket ∷ ys), one, within) refl

-- no code point: no digit, or no brace behind the digits, or too great a number
pub braced_without_digit : (text : List ℕ) → begins (is_digit_of 16) text ≡ false
    → braced_digits text ≡ record { text = codes "{"; code_point = None; rest = text }
unfolding braced_digits
braced_without_digit text e = rw (no_more_digits 0 text e) refl

pub braced_open : (xs ys : List ℕ) → digits_of_code_point 0 (xs ++ ys) ≡ xs
    → begins (λ c. c == right_curly_bracket) ys ≡ false
    → braced_digits (xs ++ ys) ≡ record { text = codes "{" ++ xs; code_point = None; rest = ys }
unfolding braced_digits
braced_open xs ys e none =
    rw (e, behind xs ys, none, and_false (nat_lt 0 (length xs) && nat_le (digits_value 16 xs) last_code_point)) refl
  where
    and_false : (a : Bool) → (a && false) ≡ false
    and_false true = refl
    and_false false = refl

pub braced_too_great : (xs ys : List ℕ) → digits_of_code_point 0 (xs ++ ys) ≡ xs
    → last_code_point < digits_value 16 xs
    → braced_digits (xs ++ ys) ≡ record { text = codes "{" ++ xs; code_point = None; rest = ys }
unfolding braced_digits
braced_too_great xs ys e great =
    let beyond : nat_le (digits_value 16 xs) last_code_point ≡ false = grind (arith, nat_tests) in
    rw (e, behind xs ys, beyond, no_digits (nat_lt 0 (length xs))) refl
  where
    no_digits : (a : Bool) → (a && false) ≡ false
    no_digits true = refl
    no_digits false = refl
