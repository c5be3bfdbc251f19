-- What an escape is, case by case, and that it is a stretch of its text.
use Rattle.std.proofs.Common.{◌≡◌, ℕ, zero, suc, ◌+◌, ◌*◌, ◌<◌, Bool, true, false, not, ◌&&◌, ◌==◌, List, []}
use Rattle.std.proofs.Common.{◌∷◌, ◌++◌}
use Rattle.std.proofs.Common.{length, take, drop, refl, sym, ◌∙◌, ap, arith, Option, Some, None, inl, inr}
use Rattle.std.proofs.Common.{append_assoc}
use Rattle.std.specs.Prelude.{codes, nat_lt, nat_le}
use Rattle.std.specs.Char.{digit_value}
use Rattle.std.specs.Char.Escape.{encode_utf16}
use Rattle.std.specs.Str.Parse.{digits_value}
use Rattle.std.proofs.lemmas.Bool.{eqb-true}
use Rattle.js_text.specs.Ascii.{line_feed, carriage_return, backslash}
use Rattle.js_text.specs.Characters.{begins, before_first, is_line_terminator}
use Rattle.js_kind.specs.Digits.{is_digit_of}
use Rattle.js_grammar.specs.UnicodeEscape.{UnicodeEscape, hex_digits, braced_digits, unicode_escape}
use Rattle.js_grammar.specs.UnicodeEscape.{digits_of_code_point, is_no_hex_digit, last_code_point, left_curly_bracket}
use Rattle.js_grammar.specs.UnicodeEscape.{right_curly_bracket}
use Rattle.js_grammar.specs.StringItems.{StringItem, good_escape, faulty_escape, line_continuation, escape_of}
use Rattle.js_grammar.specs.StringItems.{digits_escape, octal_digits, octal_escape, digit_in_template, digit_escape}
use Rattle.js_grammar.specs.StringItems.{character_escape, escape, latin_small_letter_x}
use Rattle.js_grammar.specs.Number.{digit_zero}
use Rattle.js_grammar.specs.StringItems.{latin_small_letter_u, further_octal_digits, single_character}
use Rattle.js_grammar.specs.StringItems.Fault.{bad_escape, unfinished_escape}
use Rattle.js_grammar.proofs.NumberItems.{true_or_false}
use Rattle.js_grammar.proofs.Tests.{and_true}
use Rattle.js_grammar.proofs.UnicodeEscapes.{without_brace, behind_brace}

-- a line continuation
pub continuation_of_two : (cs : List ℕ) → begins (λ d. d == line_feed) cs ≡ true
    → line_continuation carriage_return cs ≡ good_escape (carriage_return ∷ line_feed ∷ []) [] (drop 1 cs)
unfolding line_continuation
continuation_of_two cs e = rw e refl

pub continuation_of_one : (c : ℕ) (cs : List ℕ)
    → ((c == carriage_return) && begins (λ d. d == line_feed) cs) ≡ false
    → line_continuation c cs ≡ good_escape (c ∷ []) [] cs
unfolding line_continuation
continuation_of_one c cs e = rw e refl

-- a digit in a template
pub nonzero_in_template : (c : ℕ) (cs : List ℕ) → (c == digit_zero) ≡ false
    → digit_in_template c cs ≡ faulty_escape bad_escape (c ∷ []) cs
unfolding digit_in_template
nonzero_in_template c cs e = rw e refl

pub zero_and_digit : (c : ℕ) (cs : List ℕ) → (c == digit_zero) ≡ true → begins (is_digit_of 10) cs ≡ true
    → digit_in_template c cs ≡ faulty_escape bad_escape (c ∷ take 1 cs) (drop 1 cs)
unfolding digit_in_template
zero_and_digit c cs is_zero digit = rw (is_zero, digit) refl

pub zero_alone : (c : ℕ) (cs : List ℕ) → (c == digit_zero) ≡ true → begins (is_digit_of 10) cs ≡ false
    → digit_in_template c cs ≡ good_escape (c ∷ []) (0 ∷ []) cs
unfolding digit_in_template
zero_alone c cs is_zero none = rw (is_zero, none) refl

-- a digit
pub digit_escape_in_template : (c : ℕ) (cs : List ℕ) → digit_escape true c cs ≡ digit_in_template c cs
unfolding digit_escape
digit_escape_in_template c cs = refl

pub digit_escape_octal : (c : ℕ) (cs : List ℕ) → is_digit_of 8 c ≡ true → digit_escape false c cs ≡ octal_escape c cs
unfolding digit_escape
digit_escape_octal c cs e = rw e refl

pub digit_escape_itself : (c : ℕ) (cs : List ℕ) → is_digit_of 8 c ≡ false
    → digit_escape false c cs ≡ character_escape c cs
unfolding digit_escape
digit_escape_itself c cs e = rw e refl

-- an octal escape whose further digits are known
pub octal_escape_is : (c : ℕ) (cs more rest : List ℕ) → octal_digits (further_octal_digits c) cs ≡ more
    → drop (length more) cs ≡ rest
    → octal_escape c cs ≡ good_escape (c ∷ more) (digits_value 8 (c ∷ more) ∷ []) rest
unfolding octal_escape
octal_escape_is c cs more rest e left = rw (e, left) refl

-- an escape
pub escape_at_end : (t : Bool) → escape t [] ≡ faulty_escape unfinished_escape [] []
unfolding escape
escape_at_end t = refl

pub escape_of_line : (t : Bool) (c : ℕ) (cs : List ℕ) → is_line_terminator c ≡ true
    → escape t (c ∷ cs) ≡ line_continuation c cs
unfolding escape
escape_of_line t c cs e = rw e refl

pub escape_by_unit : (t : Bool) (c : ℕ) (cs : List ℕ) → is_line_terminator c ≡ false
    → (c == latin_small_letter_x) ≡ true
    → escape t (c ∷ cs) ≡ digits_escape c (hex_digits 2 cs)
unfolding escape
escape_by_unit t c cs line x = rw (line, x) refl

pub escape_by_code_point : (t : Bool) (c : ℕ) (cs : List ℕ) → is_line_terminator c ≡ false
    → (c == latin_small_letter_x) ≡ false → (c == latin_small_letter_u) ≡ true
    → escape t (c ∷ cs) ≡ digits_escape c (unicode_escape cs)
unfolding escape
escape_by_code_point t c cs line x u = rw (line, x, u) refl

pub escape_by_digit : (t : Bool) (c : ℕ) (cs : List ℕ) → is_line_terminator c ≡ false
    → (c == latin_small_letter_x) ≡ false → (c == latin_small_letter_u) ≡ false → is_digit_of 10 c ≡ true
    → escape t (c ∷ cs) ≡ digit_escape t c cs
unfolding escape
escape_by_digit t c cs line x u digit = rw (line, x, u, digit) refl

pub escape_of_character : (t : Bool) (c : ℕ) (cs : List ℕ) → is_line_terminator c ≡ false
    → (c == latin_small_letter_x) ≡ false → (c == latin_small_letter_u) ≡ false → is_digit_of 10 c ≡ false
    → escape t (c ∷ cs) ≡ character_escape c cs
unfolding escape
escape_of_character t c cs line x u none = rw (line, x, u, none) refl

-- The item is what a text begins with, at least one character; it is unfinished at the end of the source alone.
pub record Heads (text : List ℕ) (item : StringItem) : Type 0 where
  pub here : text ≡ item.text ++ item.rest
  pub some : 0 < length item.text
  pub finished : item.fault ≡ unfinished_escape → item.rest ≡ []

-- The text begins with the item, and it is an escape.
pub record IsEscape (text : List ℕ) (item : StringItem) : Type 0 where
  pub head : Heads text item
  pub escaped : item.is_escaped ≡ true

heads_good : (xs us rest : List ℕ) (cs : List ℕ) → cs ≡ xs ++ rest
    → IsEscape (backslash ∷ cs) (good_escape xs us rest)
heads_good xs us rest cs e = record {
  head = record { here = ap (λ t. backslash ∷ t) e; some = omega arith; finished = λ unfinished. absurd (cc) };
  escaped = refl;
}

heads_bad : (xs rest : List ℕ) (cs : List ℕ) → cs ≡ xs ++ rest
    → IsEscape (backslash ∷ cs) (faulty_escape bad_escape xs rest)
heads_bad xs rest cs e = record {
  head = record { here = ap (λ t. backslash ∷ t) e; some = omega arith; finished = λ unfinished. absurd (cc) };
  escaped = refl;
}

heads_unfinished : IsEscape (backslash ∷ []) (faulty_escape unfinished_escape [] [])
heads_unfinished = record {
  head = record { here = refl; some = omega arith; finished = λ unfinished. refl };
  escaped = refl;
}

-- characters up to one that passes, so many at most, and what is left
pub front_and_rest : (p : ℕ → Bool) (most : ℕ) (text : List ℕ)
    → before_first p (take most text) ++ drop (length (before_first p (take most text))) text ≡ text
front_and_rest p zero text = refl
front_and_rest p (suc most) [] = refl
front_and_rest p (suc most) (c ∷ cs) =
    elim (true_or_false (p c))
    [ inl e ↦ rw e refl | inr e ↦ rw e (ap (λ t. c ∷ t) (front_and_rest p most cs)) ]

digits_and_rest : (value : ℕ) (text : List ℕ)
    → digits_of_code_point value text ++ drop (length (digits_of_code_point value text)) text ≡ text
unfolding digits_of_code_point
digits_and_rest value [] = refl
digits_and_rest value (c ∷ cs) =
    elim (true_or_false (is_no_hex_digit c)) [
      | inl none ↦ rw none refl
      | inr digit ↦
          elim (true_or_false (nat_lt last_code_point (value * 16 + digit_value c))) [
            | inl great ↦ rw (digit, great) refl
            | inr small ↦
                rw (digit, small) (ap (λ t. c ∷ t) (digits_and_rest (value * 16 + digit_value c) cs))
          ]
    ]

-- a text that begins with a character is it, and what follows it
pub first_is : (b : ℕ) (text : List ℕ) → begins (λ c. c == b) text ≡ true → text ≡ b ∷ drop 1 text
first_is b [] e = absurd (cc)
first_is b (c ∷ cs) e = ap (λ x. x ∷ cs) (eqb-true c b e)

-- the characters behind a `\u` are those of its escape, and the rest
braced_here : (text : List ℕ)
    → left_curly_bracket ∷ text ≡ (braced_digits text).text ++ (braced_digits text).rest
unfolding braced_digits
braced_here text =
    let digits = digits_of_code_point 0 text in
    let rest = drop (length digits) text in
    let value = digits_value 16 digits in
    let whole = digits_and_rest 0 text in
    elim (true_or_false ((nat_lt 0 (length digits) && nat_le value last_code_point)
    && begins (λ c. c == right_curly_bracket) rest)) [
      | inl is ↦ (
          let last = first_is right_curly_bracket rest (and_true _ _ is).1 in
          rw is
          (ap (λ t. left_curly_bracket ∷ t)
          (sym whole ∙ ap (λ t. digits ++ t) last ∙ sym (append_assoc digits (codes "}") (drop 1 rest)))))
      | inr none ↦ rw none (ap (λ t. left_curly_bracket ∷ t) (sym whole))
    ]

pub unicode_escape_here : (text : List ℕ) → text ≡ (unicode_escape text).text ++ (unicode_escape text).rest
unicode_escape_here [] = rw (without_brace [] refl) refl
unicode_escape_here (c ∷ cs) =
    elim (true_or_false (c == left_curly_bracket)) [
      | inl is ↦ rw (eqb-true c left_curly_bracket is, behind_brace cs) (braced_here cs)
      | inr other ↦ rw (without_brace (c ∷ cs) other) (sym (front_and_rest is_no_hex_digit 4 (c ∷ cs)))
    ]

digits_head : (letter : ℕ) (digits : UnicodeEscape) (code_point : Option ℕ) (cs : List ℕ)
    → cs ≡ digits.text ++ digits.rest
    → IsEscape (backslash ∷ letter ∷ cs) (escape_of (letter ∷ digits.text) code_point digits.rest)
digits_head letter digits (Some c) cs e =
    heads_good (letter ∷ digits.text) (encode_utf16 c) digits.rest (letter ∷ cs) (ap (λ t. letter ∷ t) e)
digits_head letter digits None cs e =
    heads_bad (letter ∷ digits.text) digits.rest (letter ∷ cs) (ap (λ t. letter ∷ t) e)

line_head : (c : ℕ) (cs : List ℕ) → IsEscape (backslash ∷ c ∷ cs) (line_continuation c cs)
line_head c cs =
    elim (true_or_false ((c == carriage_return) && begins (λ d. d == line_feed) cs)) [
      | inl two ↦ (
          let both = and_true _ _ two in
          let cr = eqb-true c carriage_return both.0 in
          rw (cr, continuation_of_two cs both.1)
          (heads_good (carriage_return ∷ line_feed ∷ []) [] (drop 1 cs) (carriage_return ∷ cs)
          (ap (λ t. carriage_return ∷ t) (first_is line_feed cs both.1))))
      | inr one ↦ rw (continuation_of_one c cs one) (heads_good (c ∷ []) [] cs (c ∷ cs) refl)
    ]

octal_head : (c : ℕ) (cs : List ℕ) → IsEscape (backslash ∷ c ∷ cs) (octal_escape c cs)
octal_head c cs =
    let more = octal_digits (further_octal_digits c) cs in
    rw (octal_escape_is c cs more (drop (length more) cs) refl refl)
    (heads_good (c ∷ more) (digits_value 8 (c ∷ more) ∷ []) (drop (length more) cs) (c ∷ cs)
    (ap (λ t. c ∷ t) (sym (front_and_rest (λ d. not (is_digit_of 8 d)) (further_octal_digits c) cs))))

one_taken : (cs : List ℕ) → cs ≡ take 1 cs ++ drop 1 cs
one_taken [] = refl
one_taken (c ∷ cs) = refl

template_digit_head : (c : ℕ) (cs : List ℕ) → IsEscape (backslash ∷ c ∷ cs) (digit_in_template c cs)
template_digit_head c cs =
    elim (true_or_false (c == digit_zero)) [
      | inr other ↦ rw (nonzero_in_template c cs other) (heads_bad (c ∷ []) cs (c ∷ cs) refl)
      | inl is_zero ↦
          elim (true_or_false (begins (is_digit_of 10) cs)) [
            | inl digit ↦
                rw (zero_and_digit c cs is_zero digit)
                (heads_bad (c ∷ take 1 cs) (drop 1 cs) (c ∷ cs) (ap (λ t. c ∷ t) (one_taken cs)))
            | inr none ↦ rw (zero_alone c cs is_zero none) (heads_good (c ∷ []) (0 ∷ []) cs (c ∷ cs) refl)
          ]
    ]

character_head : (c : ℕ) (cs : List ℕ) → IsEscape (backslash ∷ c ∷ cs) (character_escape c cs)
character_head c cs = heads_good (c ∷ []) (encode_utf16 (single_character c)) cs (c ∷ cs) refl

digit_head : (t : Bool) (c : ℕ) (cs : List ℕ) → IsEscape (backslash ∷ c ∷ cs) (digit_escape t c cs)
digit_head true c cs = rw (digit_escape_in_template c cs) (template_digit_head c cs)
digit_head false c cs =
    elim (true_or_false (is_digit_of 8 c)) [
      | inl octal ↦ rw (digit_escape_octal c cs octal) (octal_head c cs)
      | inr none ↦ rw (digit_escape_itself c cs none) (character_head c cs)
    ]

-- What a text from a `\` on begins with is an escape.
pub escape_is_one : (t : Bool) (text : List ℕ) → IsEscape (backslash ∷ text) (escape t text)
escape_is_one t [] = rw (escape_at_end t) heads_unfinished
escape_is_one t (c ∷ cs) =
    elim (true_or_false (is_line_terminator c)) [
      | inl line ↦ rw (escape_of_line t c cs line) (line_head c cs)
      | inr line ↦
          elim (true_or_false (c == latin_small_letter_x)) [
            | inl x ↦
                rw (escape_by_unit t c cs line x)
                (digits_head c (hex_digits 2 cs) (hex_digits 2 cs).code_point cs
                (sym (front_and_rest is_no_hex_digit 2 cs)))
            | inr x ↦
                elim (true_or_false (c == latin_small_letter_u)) [
                  | inl u ↦
                      rw (escape_by_code_point t c cs line x u)
                      (digits_head c (unicode_escape cs) (unicode_escape cs).code_point cs (unicode_escape_here cs))
                  | inr u ↦
                      elim (true_or_false (is_digit_of 10 c)) [
                        | inl digit ↦ rw (escape_by_digit t c cs line x u digit) (digit_head t c cs)
                        | inr none ↦ rw (escape_of_character t c cs line x u none) (character_head c cs)
                      ]
                ]
          ]
    ]
