-- What a text has to be for a count to be read from it.
use Rattle.std.proofs.Common.{◌≡◌, ℕ, ◌<◌, ◌≤◌, ◌^◌, ◌&&◌, Bool, true, false, List, [], ◌∷◌, length}
use Rattle.std.proofs.Common.{get_or, zero, suc, arith}
use Rattle.std.proofs.Common.{refl, sym, ap, ◌∙◌, None, Some, Ok, Err, Result, nat_lt, nat_le, if◌then◌else◌}
use Rattle.std.specs.Fmt.{decimal}
use Rattle.std.specs.Str.{bytes_eq}
use Rattle.std.specs.Str.Parse.{digits_value, AllDigits, ParsesUnsigned}
use Rattle.std.specs.Result.{result_ok}
use Rattle.std.proofs.lemmas.Str.Parse.{IsNumeralModel, numerals_by_value, tells_digits, parse_plain}
use Rattle.std.proofs.lemmas.Fmt.{digits_value-decimal, decimal-digits_value, decimal_digit, first_decimal}
use Rattle.std.proofs.lemmas.Fmt.{parse-decimal}
use Rattle.std.proofs.lemmas.Slice.Eq.{bytes_eq-Decides}
use Rattle.std.proofs.lemmas.Bool.Decides.{nat_tests}
use Rattle.js_lex_tool.specs.Words.{count_in, number_in}

-- std's own digits and their value
pub numerals : IsNumeralModel (AllDigits 10) (digits_value 10)
numerals = numerals_by_value _ tells_digits

-- a count that is in its bounds is given, where the text is its decimal form
abbrev checked : ℕ → List ℕ → ℕ → Type 0
checked most text n = (if bytes_eq text (decimal n) && (nat_lt 0 n && nat_le n most) then Some n else None) ≡ Some n

checked-decimal : (most : ℕ) (text : List ℕ) (n : ℕ) → text ≡ decimal n → 0 < n → n ≤ most → checked most text n
checked-decimal most text n e low high = rw ((bytes_eq-Decides text (decimal n)).1 e) (grind (arith, nat_tests))

-- A number in decimal is read.
pub count_in-decimal : (most : ℕ) (text : List ℕ) (n : ℕ) → most < 2 ^ 64 → text ≡ decimal n → 0 < n → n ≤ most
    → count_in most text ≡ Some n
count_in-decimal most text n bounded e low high =
    let value : digits_value 10 text ≡ n = rw e (digits_value-decimal numerals n (omega arith)) in
    rw value (checked-decimal most text n e low high)

-- nothing is given where the test can't hold
none_unless : (most : ℕ) (same : Bool) (n : ℕ) → (same ≡ true → 0 < n → n ≤ most → ⊥)
    → (if same && (nat_lt 0 n && nat_le n most) then Some n else None) ≡ None
none_unless most false n h = refl
none_unless most true n h = grind (arith, nat_tests, h refl)

-- What is no number in decimal is not read.
pub count_in-none : (most : ℕ) (text : List ℕ) → ((n : ℕ) → 0 < n → n ≤ most → text ≡ decimal n → ⊥)
    → count_in most text ≡ None
count_in-none most text h =
    let n = digits_value 10 text in
    none_unless most (bytes_eq text (decimal n)) n
    (λ same low high. h n low high ((bytes_eq-Decides text (decimal n)).0 same))

-- A text that begins below `1` is not read.
pub count_in-low : (most : ℕ) (text : List ℕ) → most < 2 ^ 64 → get_or text 0 0 ≤ 48 → count_in most text ≡ None
count_in-low most text bounded low =
    count_in-none most text
    (λ n some few e. omega (arith, first_decimal n some (omega arith), ap (λ ds. get_or ds 0 0) e))

-- What can't be parsed is not read.
pub count_in-err : {E : Type 0} (most : ℕ) (text : List ℕ) (r : Result ℕ E) → most < 2 ^ 64 → result_ok r ≡ None
    → ParsesUnsigned 64 10 text r → count_in most text ≡ None
count_in-err most text r bounded none parses =
    count_in-none most text (λ n some few same.
    let ok : r ≡ Ok n = parse-decimal 64 n text r (omega arith) (omega arith) same parses in
    let is : result_ok r ≡ Some n = ap result_ok ok in
    cc)

-- What is parsed, and begins above `0`, is the number in decimal.
decimal_from_parse : {E : Type 0} (text : List ℕ) (r : Result ℕ E) (n : ℕ) → result_ok r ≡ Some n
    → ParsesUnsigned 64 10 text r → 48 < get_or text 0 0 → text ≡ decimal n
decimal_from_parse text (Err e) n is parses first = absurd cc
decimal_from_parse {E} text (Ok m) n is parses first =
    let plain : (AllDigits 10 text × (0 < length text) × (digits_value 10 text < 2 ^ 64)) × (m ≡ digits_value 10 text) =
    parse_plain numerals {E = E} 64 text (Ok m) parses (omega arith) in
    let digits : decimal (digits_value 10 text) ≡ text =
    decimal-digits_value numerals text plain.0.0 plain.0.1 (λ zero. absurd (omega arith)) plain.0.2 in
    let same : n ≡ digits_value 10 text = cc in
    rw same (sym digits)

-- What is parsed, begins above `0` and is not too many, is read.
pub count_in-parsed : {E : Type 0} (most : ℕ) (text : List ℕ) (r : Result ℕ E) (n : ℕ) → most < 2 ^ 64
    → result_ok r ≡ Some n → ParsesUnsigned 64 10 text r → 48 < get_or text 0 0 → n ≤ most
    → count_in most text ≡ Some n
count_in-parsed most text r zero bounded is parses first few =
    let zero_text : text ≡ _ = decimal_from_parse text r 0 is parses first ∙ decimal_digit 0 (omega arith) in
    absurd (omega (arith, ap (λ ds. get_or ds 0 0) zero_text))
count_in-parsed most text r (suc n) bounded is parses first few =
    count_in-decimal most text (suc n) bounded (decimal_from_parse text r (suc n) is parses first) (omega arith) few

zero_text : decimal 0 ≡ 48 ∷ []
zero_text = decimal_digit 0 (omega arith)

with_zero : (most : ℕ) (text : List ℕ) (n : ℕ) → n ≡ 0 → text ≡ decimal 0
    → (if bytes_eq text (decimal n) && nat_le n most then Some n else None) ≡ Some 0
with_zero most text n value is = rw (value, (bytes_eq-Decides text (decimal 0)).1 is) (grind (arith, nat_tests))

-- `0` is a number.
pub number_in-zero : (most : ℕ) → number_in most (48 ∷ []) ≡ Some 0
number_in-zero most = with_zero most (48 ∷ []) (digits_value 10 (48 ∷ [])) refl (sym zero_text)

none_but : (most n : ℕ) (same : Bool) → (same ≡ true → ⊥) → (if same && nat_le n most then Some n else None) ≡ None
none_but most n false h = refl
none_but most n true h = absurd (h refl)

-- Any other number is a count.
pub number_in-count : (most : ℕ) (text : List ℕ) → (text ≡ 48 ∷ [] → ⊥) → count_in most text ≡ number_in most text
number_in-count most text other = by_value (digits_value 10 text)
  where
    by_value : (n : ℕ) → (if bytes_eq text (decimal n) && (nat_lt 0 n && nat_le n most) then Some n else None)
        ≡ (if bytes_eq text (decimal n) && nat_le n most then Some n else None)
    by_value zero =
        none_unless most (bytes_eq text (decimal 0)) 0 (λ same low high. omega (arith, low))
        ∙ sym
        (none_but most 0 (bytes_eq text (decimal 0))
        (λ same. other ((bytes_eq-Decides text (decimal 0)).0 same ∙ zero_text)))
    by_value (suc n) = let some : nat_lt 0 (suc n) ≡ true = grind (arith, nat_tests) in rw some refl
