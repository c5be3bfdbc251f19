-- The steps of reading escapes.
use Rattle.std.proofs.Common.{◌≡◌, ℕ, ◌+◌, ◌*◌, ◌^◌, ◌<◌, ◌≤◌, false, List, [], ◌∷◌, ◌++◌, length, refl}
use Rattle.std.proofs.Common.{sym, ◌∙◌, true, slice_index}
use Rattle.std.proofs.Common.{ap, subst, arith, append_assoc, length-append, Option, Some, None, inl, inr, ◌==◌}
use Rattle.std.proofs.lemmas.Int.Digits.{digits_push, digits_value_push, digits_value-lt}
use Rattle.std.proofs.Math.Nat.{pow-le-pow_right}
use Rattle.std.proofs.lemmas.Bool.{eqb-true}
use Rattle.std.specs.Char.{digit_value}
use Rattle.std.specs.Str.Parse.{AllDigits, digits_value}
use Rattle.js_text.specs.Characters.{begins}
use Rattle.js_kind.specs.Digits.{is_digit_of}
use Rattle.js_grammar.specs.UnicodeEscape.{UnicodeEscape, hex_digits, braced_digits, unicode_escape}
use Rattle.js_grammar.specs.UnicodeEscape.{digits_of_code_point}
use Rattle.js_grammar.specs.UnicodeEscape.{last_code_point, right_curly_bracket, left_curly_bracket}
use Rattle.js_grammar.proofs.NumberItems.{true_or_false}
use Rattle.js_grammar.proofs.UnicodeEscapes.{digit_below, below_digit, all_hex_digits, some_hex_digits}
use Rattle.js_grammar.proofs.UnicodeEscapes.{no_more_digits, one_more_digit, last_digit, braced_whole, braced_open}
use Rattle.js_grammar.proofs.UnicodeEscapes.{braced_without_digit, braced_too_great, without_brace, behind_brace}
use Rattle.js_grammar.proofs.NumberClasses.{contraposed, digit_is_ascii, all_below, below}
use Rattle.js_source.specs.Source.{At, rest, Reads, BeginsWith, HasFirstByte}
use Rattle.js_source.proofs.Places.{begins_with}
use Rattle.js_spell.specs.Escape.{TellsValues, TakesDigit, TakesDigits, TakesCodePoint, ReadsUnicodeEscape}

-- a digit, or none
pub no_digit_here : (radix c : ℕ) (at : At) → BeginsWith c (rest at) → (digit_value c < radix → ⊥)
    → begins (is_digit_of radix) (rest at) ≡ false
no_digit_here radix c at begun none =
    let found = begins_with c (rest at) begun in
    elim (true_or_false (is_digit_of radix c)) [
      | inl is ↦ absurd (none (below_digit radix c is))
      | inr other ↦ ap (begins (is_digit_of radix)) found.1 ∙ other
    ]

pub digit_here : (radix c value : ℕ) (old new : At) → BeginsWith c (rest old) → digit_value c < radix
    → value ≡ digit_value c → ((cs : List ℕ) → rest old ≡ c ∷ cs → (new.text ≡ old.text) × (rest new ≡ cs))
    → TakesDigit radix old new (Some value)
digit_here radix c value old new begun small e past =
    let found = begins_with c (rest old) begun in
    let step = past found.0 found.1 in (
      c,
      digit_below radix c small,
      sym e,
      record { text = step.0; here = found.1 ∙ ap (λ t. c ∷ t) (sym step.1) },
    )

-- no hexadecimal digit, by the byte that is next
pub no_hex_digit_here : (b : ℕ) (cs : List ℕ) → HasFirstByte b cs → is_digit_of 16 b ≡ false
    → begins (is_digit_of 16) cs ≡ false
no_hex_digit_here b [] first none = absurd first
no_hex_digit_here b (c ∷ cs) first none =
    contraposed (is_digit_of 16 c) (is_digit_of 16 b)
    (λ e. ap (is_digit_of 16) (sym (first.1 (digit_is_ascii c e))) ∙ e) none

-- no digits yet
pub no_digits : (radix : ℕ) (before : List ℕ) (at : At) → AllDigits radix (before ++ [])
    → TakesDigits radix before at at 0 (digits_value radix (before ++ []))
no_digits radix before at all =
    record { text = refl; digits = []; all = all; here = refl; count_is = refl; value_is = refl }

-- and one more
pub more_digits : (radix : ℕ) (before : List ℕ) (old mid new : At) (count value digit : ℕ)
    → TakesDigits radix before old mid count value
    → TakesDigit radix mid new (Some digit)
    → TakesDigits radix before old new (count + 1) (value * radix + digit)
more_digits radix before old mid new count value digit so_far (c, is, of, read) =
    let together = append_assoc before so_far.digits (c ∷ []) in
    record {
      text = read.text ∙ so_far.text;
      digits = so_far.digits ++ (c ∷ []);
      all =
          subst (AllDigits radix) together
          (digits_push radix (before ++ so_far.digits) c so_far.all (below_digit radix c is));
      here =
          so_far.here ∙ ap (λ t. so_far.digits ++ t) read.here
          ∙ sym (append_assoc so_far.digits (c ∷ []) (rest new));
      count_is = omega (arith, length-append so_far.digits (c ∷ []), so_far.count_is);
      value_is =
          ap (digits_value radix) (sym together)
          ∙ digits_value_push radix (before ++ so_far.digits) c
          ∙ ap (λ n. n * radix + digit_value c) so_far.value_is
          ∙ ap (λ n. value * radix + n) of;
    }

-- the number of digits is small
pub digits_value_small : (radix : ℕ) (before : List ℕ) (old new : At) (count value : ℕ)
    → TakesDigits radix before old new count value → value < radix ^ (length before + count)
digits_value_small radix before old new count value so_far =
    subst (λ n. value < radix ^ n)
    (length-append before so_far.digits ∙ ap (λ n. length before + n) so_far.count_is)
    (subst (λ n. n < radix ^ length (before ++ so_far.digits)) so_far.value_is
    (digits_value-lt radix (before ++ so_far.digits) so_far.all))

-- below the fourth digit
pub hex_value_fits : (old new : At) (count value : ℕ) → TakesDigits 16 [] old new count value → count < 4
    → value < 4096
hex_value_fits old new count value so_far h =
    let small : value < 16 ^ (0 + count) = digits_value_small 16 [] old new count value so_far in
    let less : 16 ^ (0 + count) ≤ 16 ^ 3 =
    pow-le-pow_right {n = 16} (omega arith) {i = 0 + count} {j = 3} (omega arith) in
    omega arith

-- all digits are there
pub hex_digits_read : (old new : At) (count value : ℕ) → TakesDigits 16 [] old new count value
    → ReadsUnicodeEscape (hex_digits count (rest old)) old new (Some value)
hex_digits_read old new count value so_far =
    let read = ap (hex_digits count) so_far.here ∙ all_hex_digits count so_far.digits (rest new) so_far.all
    so_far.count_is in
    record {
      text = so_far.text;
      left = ap (λ (e : UnicodeEscape). e.rest) read;
      code_point_is = ap (λ (e : UnicodeEscape). e.code_point) read ∙ ap Some so_far.value_is;
    }

-- one is missing
pub hex_digits_broken : (old mid new : At) (most count value : ℕ) → TakesDigits 16 [] old mid count value → count < most
    → TakesDigit 16 mid new None
    → ReadsUnicodeEscape (hex_digits most (rest old)) old new None
hex_digits_broken old mid new most count value so_far h (none, same) =
    rw same
    (let read = ap (hex_digits most) so_far.here
    ∙ some_hex_digits most so_far.digits (rest mid) so_far.all (omega (arith, so_far.count_is)) none in
    record {
      text = so_far.text;
      left = ap (λ (e : UnicodeEscape). e.rest) read;
      code_point_is = ap (λ (e : UnicodeEscape). e.code_point) read;
    })

zero_before : (n : ℕ) → 0 * 16 + n ≡ n
zero_before n = omega arith

-- the first digit of a code point
pub first_of_code_point : (old new : At) (digit : ℕ) → TakesDigit 16 old new (Some digit)
    → TakesCodePoint old new digit
first_of_code_point old new digit (c, is, of, read) =
    let small = below_digit 16 c is in
    record {
      text = read.text;
      digits = c ∷ [];
      some = omega arith;
      here = read.here;
      value_is = digits_value_push 16 [] c ∙ zero_before (digit_value c) ∙ of;
      go_on =
          ap (digits_of_code_point 0) read.here ∙ one_more_digit 0 c (rest new) is (omega arith)
          ∙ ap (λ n. c ∷ digits_of_code_point n (rest new)) (zero_before (digit_value c) ∙ of);
    }

-- a further one
pub more_of_code_point : (old mid new : At) (value digit : ℕ) → TakesCodePoint old mid value
    → TakesDigit 16 mid new (Some digit) → value * 16 + digit ≤ last_code_point
    → TakesCodePoint old new (value * 16 + digit)
more_of_code_point old mid new value digit so_far (c, is, of, read) h = record {
  text = read.text ∙ so_far.text;
  digits = so_far.digits ++ (c ∷ []);
  some = omega (arith, length-append so_far.digits (c ∷ []));
  here =
      so_far.here ∙ ap (λ t. so_far.digits ++ t) read.here ∙ sym (append_assoc so_far.digits (c ∷ []) (rest new));
  value_is =
      digits_value_push 16 so_far.digits c ∙ ap (λ n. n * 16 + digit_value c) so_far.value_is
      ∙ ap (λ n. value * 16 + n) of;
  go_on =
      so_far.go_on
      ∙ ap (λ t. so_far.digits ++ digits_of_code_point value t) read.here
      ∙ ap (λ t. so_far.digits ++ t)
      (one_more_digit value c (rest new) is (omega (arith, of, h))
      ∙ ap (λ n. c ∷ digits_of_code_point (value * 16 + n) (rest new)) of)
      ∙ sym (append_assoc so_far.digits (c ∷ []) (digits_of_code_point (value * 16 + digit) (rest new)));
}

-- the one that is too much
pub code_point_too_great : (old mid new : At) (value digit : ℕ) → TakesCodePoint old mid value
    → TakesDigit 16 mid new (Some digit) → last_code_point < value * 16 + digit
    → ReadsUnicodeEscape (braced_digits (rest old)) old new None
code_point_too_great old mid new value digit so_far (c, is, of, read) h =
    let xs = so_far.digits ++ (c ∷ []) in
    let here : rest old ≡ xs ++ rest new =
    so_far.here ∙ ap (λ t. so_far.digits ++ t) read.here ∙ sym (append_assoc so_far.digits (c ∷ []) (rest new)) in
    let taken : digits_of_code_point 0 (xs ++ rest new) ≡ xs =
    ap (digits_of_code_point 0) (sym here) ∙ so_far.go_on
    ∙ ap (λ t. so_far.digits ++ digits_of_code_point value t) read.here
    ∙ ap (λ t. so_far.digits ++ t) (last_digit value c (rest new) is (omega (arith, of, h))) in
    let number : digits_value 16 xs ≡ value * 16 + digit =
    digits_value_push 16 so_far.digits c ∙ ap (λ n. n * 16 + digit_value c) so_far.value_is
    ∙ ap (λ n. value * 16 + n) of in
    let found = ap braced_digits here ∙ braced_too_great xs (rest new) taken (omega (arith, number, h)) in
    record {
      text = read.text ∙ so_far.text;
      left = ap (λ (e : UnicodeEscape). e.rest) found;
      code_point_is = ap (λ (e : UnicodeEscape). e.code_point) found;
    }

-- no digit
pub no_code_point : (old new : At) → TakesDigit 16 old new None
    → ReadsUnicodeEscape (braced_digits (rest old)) old new None
no_code_point old new (none, same) =
    rw same
    (let found = braced_without_digit (rest old) none in
    record {
      text = refl;
      left = ap (λ (e : UnicodeEscape). e.rest) found;
      code_point_is = ap (λ (e : UnicodeEscape). e.code_point) found;
    })

-- what is known where no further digit is
ended : (old mid : At) (value : ℕ) (so_far : TakesCodePoint old mid value) → begins (is_digit_of 16) (rest mid) ≡ false
    → digits_of_code_point 0 (so_far.digits ++ rest mid) ≡ so_far.digits
ended old mid value so_far none =
    ap (digits_of_code_point 0) (sym so_far.here) ∙ so_far.go_on
    ∙ ap (λ t. so_far.digits ++ t) (no_more_digits value (rest mid) none) ∙ nothing so_far.digits
  where
    nothing : (xs : List ℕ) → xs ++ [] ≡ xs
    nothing [] = refl
    nothing (x ∷ xs) = ap (λ t. x ∷ t) (nothing xs)

-- the brace behind the digits
pub code_point_closed : (old mid new : At) (value : ℕ) → TakesCodePoint old mid value
    → begins (is_digit_of 16) (rest mid) ≡ false → value ≤ last_code_point → Reads mid new right_curly_bracket
    → ReadsUnicodeEscape (braced_digits (rest old)) old new (Some value)
code_point_closed old mid new value so_far none small read =
    let here : rest old ≡ so_far.digits ++ (right_curly_bracket ∷ rest new) =
    so_far.here ∙ ap (λ t. so_far.digits ++ t) read.here in
    let taken = subst (λ t. digits_of_code_point 0 (so_far.digits ++ t) ≡ so_far.digits) read.here
    (ended old mid value so_far none) in
    let found = ap braced_digits here
    ∙ braced_whole so_far.digits (rest new) taken so_far.some (omega (arith, so_far.value_is, small)) in
    record {
      text = read.text ∙ so_far.text;
      left = ap (λ (e : UnicodeEscape). e.rest) found;
      code_point_is = ap (λ (e : UnicodeEscape). e.code_point) found ∙ ap Some so_far.value_is;
    }

-- or none
pub code_point_open : (old mid : At) (value : ℕ) → TakesCodePoint old mid value
    → begins (is_digit_of 16) (rest mid) ≡ false → begins (λ c. c == right_curly_bracket) (rest mid) ≡ false
    → ReadsUnicodeEscape (braced_digits (rest old)) old mid None
code_point_open old mid value so_far none open_end =
    let found = ap braced_digits so_far.here
    ∙ braced_open so_far.digits (rest mid) (ended old mid value so_far none) open_end in
    record {
      text = so_far.text;
      left = ap (λ (e : UnicodeEscape). e.rest) found;
      code_point_is = ap (λ (e : UnicodeEscape). e.code_point) found;
    }

-- behind a `{`
pub braced_escape_read : (old mid new : At) (code_point : Option ℕ) → Reads old mid left_curly_bracket
    → ReadsUnicodeEscape (braced_digits (rest mid)) mid new code_point
    → ReadsUnicodeEscape (unicode_escape (rest old)) old new code_point
braced_escape_read old mid new code_point brace read =
    let same = ap unicode_escape brace.here ∙ behind_brace (rest mid) in
    rw same (record { text = read.text ∙ brace.text; left = read.left; code_point_is = read.code_point_is })

-- without one
pub plain_escape_read : (old mid new : At) (code_point : Option ℕ)
    → begins (λ c. c == left_curly_bracket) (rest old) ≡ false → mid ≡ old
    → ReadsUnicodeEscape (hex_digits 4 (rest mid)) mid new code_point
    → ReadsUnicodeEscape (unicode_escape (rest old)) old new code_point
plain_escape_read old mid new code_point none same read =
    rw (without_brace (rest old) none)
    (subst (λ (at : At). ReadsUnicodeEscape (hex_digits 4 (rest at)) at new code_point) same read)

-- a table of the values of digits, by a test of each entry
pub tells_values : (table : List ℕ) → all_below (λ b. slice_index table b == digit_value b) 256 ≡ true
    → TellsValues table
tells_values table e = record {
  tells = λ b h. eqb-true (slice_index table b) (digit_value b)
      (below (λ i. slice_index table i == digit_value i) 256 b e h);
}
