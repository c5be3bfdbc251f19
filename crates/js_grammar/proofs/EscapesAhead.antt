-- Unicode escapes depend on the characters that were taken and on the first one behind them.
use Rattle.std.proofs.Common.{◌≡◌, ℕ, zero, suc, ◌+◌, ◌*◌, ◌<◌, ◌≤◌, Bool, true, false, ◌&&◌, ◌==◌, List, []}
use Rattle.std.proofs.Common.{◌∷◌, ◌++◌, length, take, drop, refl, sym, ◌∙◌, ap, arith, inl, inr, length-append}
use Rattle.std.specs.Prelude.{codes, nat_lt, nat_le, Some, None, if◌then◌else◌}
use Rattle.std.specs.Char.{digit_value}
use Rattle.std.specs.Str.Parse.{digits_value}
use Rattle.std.proofs.lemmas.Bool.{eqb-true}
use Rattle.std.proofs.lemmas.List.{append_cancel_right}
use Rattle.js_text.specs.Characters.{begins, before_first}
use Rattle.js_grammar.specs.UnicodeEscape.{UnicodeEscape, hex_digits, four_digits, braced_digits, unicode_escape}
use Rattle.js_grammar.specs.UnicodeEscape.{digits_of_code_point, is_no_hex_digit, last_code_point, left_curly_bracket}
use Rattle.js_grammar.specs.UnicodeEscape.{right_curly_bracket}
use Rattle.js_grammar.proofs.Ahead.{BeginAlike, begins_alike, alike_behind}
use Rattle.js_grammar.proofs.EscapeCases.{first_is, unicode_escape_here}
use Rattle.js_grammar.proofs.NumberItems.{true_or_false}
use Rattle.js_grammar.proofs.Tests.{and_true}
use Rattle.js_grammar.proofs.UnicodeEscapes.{without_brace, behind_brace}

pub drop_shortens : (k : ℕ) (xs : List ℕ) → length (drop k xs) ≤ length xs
drop_shortens zero xs = omega arith
drop_shortens (suc k) [] = omega arith
drop_shortens (suc k) (x ∷ xs) = let less = drop_shortens k xs in omega arith

-- where a character was dropped of a text, it is not left as a whole
pub drop_too_far : {A : Type 0} (k : ℕ) (us ys zs : List ℕ) → BeginAlike ys zs → drop (suc k) ys ≡ us ++ ys → A
drop_too_far k us ys zs alike e =
    let less = drop_shortens k alike.rest in
    let here : drop k alike.rest ≡ us ++ ys = ap (drop (suc k)) (sym alike.here) ∙ e in
    absurd (omega (arith, less, ap length here, ap length alike.here, length-append us ys))

-- what is dropped before the place behind which texts may differ
pub drop_local : (k : ℕ) (xs us ys zs : List ℕ) → BeginAlike ys zs → drop k (xs ++ ys) ≡ us ++ ys
    → drop k (xs ++ zs) ≡ us ++ zs
drop_local zero xs us ys zs alike e = ap (λ t. t ++ zs) (append_cancel_right xs us ys e)
drop_local (suc k) [] us ys zs alike e = drop_too_far k us ys zs alike e
drop_local (suc k) (x ∷ xs) us ys zs alike e = drop_local k xs us ys zs alike e

front_stops : (p : ℕ → Bool) (most : ℕ) (ys : List ℕ) (c : ℕ) (cs : List ℕ) → ys ≡ c ∷ cs → p c ≡ true
    → before_first p (take (suc most) ys) ≡ []
front_stops p most ys c cs e ends = rw (e, ends) refl

-- characters up to one that passes, so many at most
pub front_local : (p : ℕ → Bool) (most : ℕ) (xs us ys zs : List ℕ) → BeginAlike ys zs
    → drop (length (before_first p (take most (xs ++ ys)))) (xs ++ ys) ≡ us ++ ys
    → before_first p (take most (xs ++ zs)) ≡ before_first p (take most (xs ++ ys))
front_local p zero xs us ys zs alike e = refl
front_local p (suc most) [] us ys zs alike e =
    elim (true_or_false (p alike.first)) [
      | inl ends ↦
          front_stops p most zs alike.first alike.other alike.there ends
          ∙ sym (front_stops p most ys alike.first alike.rest alike.here ends)
      | inr on ↦ (
          let found : before_first p (take (suc most) ys) ≡ alike.first ∷ before_first p (take most alike.rest) =
          ap (λ t. before_first p (take (suc most) t)) alike.here ∙ rw on refl in
          drop_too_far (length (before_first p (take most alike.rest))) us ys zs alike
          (ap (λ t. drop (length t) ys) (sym found) ∙ e))
    ]
front_local p (suc most) (x ∷ xs) us ys zs alike e =
    elim (true_or_false (p x)) [
      | inl ends ↦ rw ends refl
      | inr on ↦ (
          let further : drop (length (before_first p (take most (xs ++ ys)))) (xs ++ ys) ≡ us ++ ys =
          rw on at e in
          rw on (ap (λ t. x ∷ t) (front_local p most xs us ys zs alike further)))
    ]

digits_stop : (value : ℕ) (ys : List ℕ) (c : ℕ) (cs : List ℕ) → ys ≡ c ∷ cs → is_no_hex_digit c ≡ true
    → digits_of_code_point value ys ≡ []
unfolding digits_of_code_point
digits_stop value ys c cs e none = rw (e, none) refl

-- the digits of a code point
pub digits_local : (value : ℕ) (xs us ys zs : List ℕ) → BeginAlike ys zs
    → drop (length (digits_of_code_point value (xs ++ ys))) (xs ++ ys) ≡ us ++ ys
    → digits_of_code_point value (xs ++ zs) ≡ digits_of_code_point value (xs ++ ys)
unfolding digits_of_code_point
digits_local value [] us ys zs alike e =
    elim (true_or_false (is_no_hex_digit alike.first)) [
      | inl none ↦
          digits_stop value zs alike.first alike.other alike.there none
          ∙ sym (digits_stop value ys alike.first alike.rest alike.here none)
      | inr digit ↦
          elim (true_or_false (nat_lt last_code_point (value * 16 + digit_value alike.first))) [
            | inl great ↦ (
                let found : digits_of_code_point value ys ≡ alike.first ∷ [] =
                ap (digits_of_code_point value) alike.here ∙ rw (digit, great) refl in
                drop_too_far 0 us ys zs alike (ap (λ t. drop (length t) ys) (sym found) ∙ e))
            | inr small ↦ (
                let more = digits_of_code_point (value * 16 + digit_value alike.first) alike.rest in
                let found : digits_of_code_point value ys ≡ alike.first ∷ more =
                ap (digits_of_code_point value) alike.here ∙ rw (digit, small) refl in
                drop_too_far (length more) us ys zs alike (ap (λ t. drop (length t) ys) (sym found) ∙ e))
          ]
    ]
digits_local value (x ∷ xs) us ys zs alike e =
    elim (true_or_false (is_no_hex_digit x)) [
      | inl none ↦ rw none refl
      | inr digit ↦
          elim (true_or_false (nat_lt last_code_point (value * 16 + digit_value x))) [
            | inl great ↦ rw (digit, great) refl
            | inr small ↦ (
                let next = value * 16 + digit_value x in
                let further : drop (length (digits_of_code_point next (xs ++ ys))) (xs ++ ys) ≡ us ++ ys =
                rw (digit, small) at e in
                rw (digit, small) (ap (λ t. x ∷ t) (digits_local next xs us ys zs alike further)))
          ]
    ]

-- hexadecimal digits, so many or as many as stand there
pub hex_digits_local : (count : ℕ) (xs us ys zs : List ℕ) → BeginAlike ys zs
    → (hex_digits count (xs ++ ys)).rest ≡ us ++ ys
    → hex_digits count (xs ++ zs) ≡ record (hex_digits count (xs ++ ys)) { rest = us ++ zs }
hex_digits_local count xs us ys zs alike e =
    let same = front_local is_no_hex_digit count xs us ys zs alike e in
    let digits = before_first is_no_hex_digit (take count (xs ++ ys)) in
    ap (λ ds. hex_escape count ds (drop (length ds) (xs ++ zs))) same
    ∙ ap (hex_escape count digits) (drop_local (length digits) xs us ys zs alike e)
  where
    hex_escape : ℕ → List ℕ → List ℕ → UnicodeEscape
    hex_escape count digits rest = record {
      text = digits;
      code_point = if length digits == count then Some (digits_value 16 digits) else None;
      rest = rest;
    }

pub four_digits_local : (xs us ys zs : List ℕ) → BeginAlike ys zs → (four_digits (xs ++ ys)).rest ≡ us ++ ys
    → four_digits (xs ++ zs) ≡ record (four_digits (xs ++ ys)) { rest = us ++ zs }
unfolding four_digits
four_digits_local xs us ys zs alike e = hex_digits_local 4 xs us ys zs alike e

-- digits that a brace ends, or does not
abbrev braced_of : List ℕ → List ℕ → Bool → UnicodeEscape
braced_of digits rest closed =
    if closed
    then record {
      text = codes "{" ++ digits ++ codes "}";
      code_point = Some (digits_value 16 digits);
      rest = drop 1 rest;
    }
    else record { text = codes "{" ++ digits; code_point = None; rest = rest }

abbrev is_closed : List ℕ → List ℕ → Bool
is_closed digits rest =
    nat_lt 0 (length digits) && nat_le (digits_value 16 digits) last_code_point
    && begins (λ c. c == right_curly_bracket) rest

braced_is : (text digits rest : List ℕ) (closed : Bool) → digits_of_code_point 0 text ≡ digits
    → drop (length digits) text ≡ rest → is_closed digits rest ≡ closed
    → braced_digits text ≡ braced_of digits rest closed
unfolding braced_digits
braced_is text digits rest closed e left closes = rw (e, left, closes) refl

pub braced_digits_local : (xs us ys zs : List ℕ) → BeginAlike ys zs → (braced_digits (xs ++ ys)).rest ≡ us ++ ys
    → braced_digits (xs ++ zs) ≡ record (braced_digits (xs ++ ys)) { rest = us ++ zs }
braced_digits_local xs us ys zs alike e =
    let digits = digits_of_code_point 0 (xs ++ ys) in
    let rest = drop (length digits) (xs ++ ys) in
    elim (true_or_false (is_closed digits rest)) [
      | inl closed ↦ (
          let is = braced_is (xs ++ ys) digits rest true refl refl closed in
          let left : rest ≡ (right_curly_bracket ∷ us) ++ ys =
          first_is right_curly_bracket rest (and_true _ _ closed).1
          ∙ ap (λ t. right_curly_bracket ∷ t) (ap (λ (r : UnicodeEscape). r.rest) (sym is) ∙ e) in
          let same = digits_local 0 xs (right_curly_bracket ∷ us) ys zs alike left in
          let there = drop_local (length digits) xs (right_curly_bracket ∷ us) ys zs alike left in
          let closes : is_closed digits (right_curly_bracket ∷ (us ++ zs)) ≡ true =
          ap (is_closed digits) (sym left) ∙ closed in
          braced_is (xs ++ zs) digits (right_curly_bracket ∷ (us ++ zs)) true same there closes
          ∙ ap (λ (r : UnicodeEscape). record r { rest = us ++ zs }) (sym is))
      | inr unclosed ↦ (
          let is = braced_is (xs ++ ys) digits rest false refl refl unclosed in
          let left : rest ≡ us ++ ys = ap (λ (r : UnicodeEscape). r.rest) (sym is) ∙ e in
          let same = digits_local 0 xs us ys zs alike left in
          let there = drop_local (length digits) xs us ys zs alike left in
          let closes : is_closed digits (us ++ zs) ≡ false =
          ap (λ b. nat_lt 0 (length digits) && nat_le (digits_value 16 digits) last_code_point && b)
          (sym (begins_alike (λ c. c == right_curly_bracket) (us ++ ys) (us ++ zs) (alike_behind us ys zs alike)))
          ∙ ap (is_closed digits) (sym left) ∙ unclosed in
          braced_is (xs ++ zs) digits (us ++ zs) false same there closes
          ∙ ap (λ (r : UnicodeEscape). record r { rest = us ++ zs }) (sym is))
    ]

braced_some : (text : List ℕ) → 0 < length (braced_digits text).text
braced_some text =
    let digits = digits_of_code_point 0 text in
    let rest = drop (length digits) text in
    elim (true_or_false (is_closed digits rest)) [
      | inl closed ↦ rw (braced_is text digits rest true refl refl closed) (omega arith)
      | inr unclosed ↦ rw (braced_is text digits rest false refl refl unclosed) (omega arith)
    ]

-- what stands behind a `\u`
pub unicode_escape_local : (xs us ys zs : List ℕ) → BeginAlike ys zs → (unicode_escape (xs ++ ys)).rest ≡ us ++ ys
    → unicode_escape (xs ++ zs) ≡ record (unicode_escape (xs ++ ys)) { rest = us ++ zs }
unicode_escape_local [] us ys zs alike e =
    elim (true_or_false (begins (λ c. c == left_curly_bracket) ys)) [
      | inl brace ↦ (
          let is = ap unicode_escape (first_is left_curly_bracket ys brace) ∙ behind_brace (drop 1 ys) in
          let some = braced_some (drop 1 ys) in
          let whole = unicode_escape_here ys in
          absurd
          (omega (
            arith,
            some,
            ap (λ (r : UnicodeEscape). length r.text) is,
            ap length whole,
            length-append (unicode_escape ys).text (unicode_escape ys).rest,
            ap length e,
            length-append us ys,
          )))
      | inr none ↦ (
          let here = without_brace ys none in
          let there = without_brace zs (sym (begins_alike (λ c. c == left_curly_bracket) ys zs alike) ∙ none) in
          let left = ap (λ (r : UnicodeEscape). r.rest) (sym here) ∙ e in
          there ∙ hex_digits_local 4 [] us ys zs alike left
          ∙ ap (λ (r : UnicodeEscape). record r { rest = us ++ zs }) (sym here))
    ]
unicode_escape_local (x ∷ xs) us ys zs alike e =
    elim (true_or_false (x == left_curly_bracket)) [
      | inl brace ↦ (
          let same = eqb-true x left_curly_bracket brace in
          let here = ap (λ c. unicode_escape (c ∷ (xs ++ ys))) same ∙ behind_brace (xs ++ ys) in
          let there = ap (λ c. unicode_escape (c ∷ (xs ++ zs))) same ∙ behind_brace (xs ++ zs) in
          let left = ap (λ (r : UnicodeEscape). r.rest) (sym here) ∙ e in
          there ∙ braced_digits_local xs us ys zs alike left
          ∙ ap (λ (r : UnicodeEscape). record r { rest = us ++ zs }) (sym here))
      | inr none ↦ (
          let here = without_brace (x ∷ (xs ++ ys)) none in
          let there = without_brace (x ∷ (xs ++ zs)) none in
          let left = ap (λ (r : UnicodeEscape). r.rest) (sym here) ∙ e in
          there ∙ hex_digits_local 4 (x ∷ xs) us ys zs alike left
          ∙ ap (λ (r : UnicodeEscape). record r { rest = us ++ zs }) (sym here))
    ]
