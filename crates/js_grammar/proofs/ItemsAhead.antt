-- Items of strings and templates depend on the characters that were taken and on the first one behind them.
use Rattle.std.proofs.Common.{◌≡◌, ℕ, ◌<◌, Bool, true, false, ◌&&◌, ◌==◌, List, []}
use Rattle.std.proofs.Common.{◌∷◌, ◌++◌, length, take, drop, refl, sym, ◌∙◌, ap, arith, inl, inr, length-append}
use Rattle.std.proofs.Common.{Option, Some, None, if◌then◌else◌}
use Rattle.std.specs.Str.Parse.{digits_value}
use Rattle.js_text.specs.Ascii.{line_feed, carriage_return}
use Rattle.js_text.specs.Characters.{begins, is_line_terminator}
use Rattle.js_kind.specs.Digits.{is_digit_of}
use Rattle.js_grammar.specs.Number.{digit_zero}
use Rattle.js_grammar.specs.UnicodeEscape.{UnicodeEscape, hex_digits, unicode_escape}
use Rattle.js_grammar.specs.StringItems.{StringItem, good_escape, faulty_escape, line_continuation, escape_of}
use Rattle.js_grammar.specs.StringItems.{digits_escape, is_no_octal_digit, octal_digits, octal_escape}
use Rattle.js_grammar.specs.StringItems.{digit_in_template, digit_escape, character_escape, escape}
use Rattle.js_grammar.specs.StringItems.{latin_small_letter_x, latin_small_letter_u, further_octal_digits}
use Rattle.js_grammar.specs.StringItems.Fault.{bad_escape}
use Rattle.js_grammar.specs.Template.{line_end_item, carriage_return_item}
use Rattle.js_grammar.proofs.Ahead.{BeginAlike, begins_alike, alike_behind}
use Rattle.js_grammar.proofs.EscapeCases.{zero_alone, zero_and_digit, nonzero_in_template, octal_escape_is}
use Rattle.js_grammar.proofs.EscapeCases.{escape_is_one}
use Rattle.js_grammar.proofs.EscapesAhead.{drop_local, front_local, hex_digits_local, unicode_escape_local}
use Rattle.js_grammar.proofs.NumberItems.{true_or_false}
use Rattle.js_grammar.proofs.StringSteps.{carriage_return_one, carriage_return_two}

-- the item, behind which this is left
abbrev pub up_to : StringItem → List ℕ → StringItem
up_to item rest = record item { rest = rest }

-- What is found of a text depends on what it takes and the first character behind that.
abbrev pub IsLocal : (List ℕ → StringItem) → Type 0
IsLocal find = (xs us ys zs : List ℕ) → BeginAlike ys zs → (find (xs ++ ys)).rest ≡ us ++ ys
    → find (xs ++ zs) ≡ up_to (find (xs ++ ys)) (us ++ zs)

-- the same item, so many characters further on in either text
further : (here there item : StringItem) (k : ℕ) (xs us ys zs : List ℕ) → BeginAlike ys zs
    → here ≡ up_to item (drop k (xs ++ ys)) → there ≡ up_to item (drop k (xs ++ zs)) → here.rest ≡ us ++ ys
    → there ≡ up_to here (us ++ zs)
further here there item k xs us ys zs alike here_is there_is e =
    let left : drop k (xs ++ ys) ≡ us ++ ys = ap (λ (i : StringItem). i.rest) (sym here_is) ∙ e in
    there_is ∙ ap (up_to item) (drop_local k xs us ys zs alike left)
    ∙ ap (λ i. up_to i (us ++ zs)) (sym here_is)

continuation_is : (c : ℕ) (cs : List ℕ) (two : Bool) → ((c == carriage_return) && begins (λ d. d == line_feed) cs) ≡ two
    → line_continuation c cs
    ≡ (if two then good_escape (carriage_return ∷ line_feed ∷ []) [] (drop 1 cs) else good_escape (c ∷ []) [] cs)
unfolding line_continuation
continuation_is c cs two e = rw e refl

line_local : (c : ℕ) → IsLocal (line_continuation c)
line_local c xs us ys zs alike e =
    let next = sym (begins_alike (λ d. d == line_feed) (xs ++ ys) (xs ++ zs) (alike_behind xs ys zs alike)) in
    let same = ap (λ b. (c == carriage_return) && b) next in
    let here = continuation_is c (xs ++ ys) in
    let there = continuation_is c (xs ++ zs) in
    elim (true_or_false ((c == carriage_return) && begins (λ d. d == line_feed) (xs ++ ys))) [
      | inl two ↦
          further (line_continuation c (xs ++ ys)) (line_continuation c (xs ++ zs))
          (good_escape (carriage_return ∷ line_feed ∷ []) [] []) 1 xs us ys zs alike (here true two)
          (there true (same ∙ two)) e
      | inr one ↦
          further (line_continuation c (xs ++ ys)) (line_continuation c (xs ++ zs)) (good_escape (c ∷ []) [] []) 0 xs us
          ys zs alike (here false one) (there false (same ∙ one)) e
    ]

octal_local : (c : ℕ) → IsLocal (octal_escape c)
octal_local c xs us ys zs alike e =
    let most = further_octal_digits c in
    let more = octal_digits most (xs ++ ys) in
    let here = octal_escape_is c (xs ++ ys) more (drop (length more) (xs ++ ys)) refl refl in
    let left : drop (length more) (xs ++ ys) ≡ us ++ ys = ap (λ (i : StringItem). i.rest) (sym here) ∙ e in
    let same = front_local is_no_octal_digit most xs us ys zs alike left in
    let there = octal_escape_is c (xs ++ zs) more (drop (length more) (xs ++ zs)) same refl in
    further (octal_escape c (xs ++ ys)) (octal_escape c (xs ++ zs))
    (good_escape (c ∷ more) (digits_value 8 (c ∷ more) ∷ []) []) (length more) xs us ys zs alike here there e

one_alike : (ys zs : List ℕ) → BeginAlike ys zs → take 1 zs ≡ take 1 ys
one_alike ys zs alike = ap (take 1) alike.there ∙ sym (ap (take 1) alike.here)

template_digit_local : (c : ℕ) → IsLocal (digit_in_template c)
template_digit_local c xs us ys zs alike e =
    let both = alike_behind xs ys zs alike in
    let next = sym (begins_alike (is_digit_of 10) (xs ++ ys) (xs ++ zs) both) in
    let here = digit_in_template c (xs ++ ys) in
    let there = digit_in_template c (xs ++ zs) in
    elim (true_or_false (c == digit_zero)) [
      | inr other ↦
          further here there (faulty_escape bad_escape (c ∷ []) []) 0 xs us ys zs alike
          (nonzero_in_template c (xs ++ ys) other) (nonzero_in_template c (xs ++ zs) other) e
      | inl is_zero ↦
          elim (true_or_false (begins (is_digit_of 10) (xs ++ ys))) [
            | inl digit ↦
                further here there (faulty_escape bad_escape (c ∷ take 1 (xs ++ ys)) []) 1 xs us ys zs alike
                (zero_and_digit c (xs ++ ys) is_zero digit)
                (zero_and_digit c (xs ++ zs) is_zero (next ∙ digit)
                ∙ ap (λ t. faulty_escape bad_escape (c ∷ t) (drop 1 (xs ++ zs)))
                (one_alike (xs ++ ys) (xs ++ zs) both))
                e
            | inr none ↦
                further here there (good_escape (c ∷ []) (0 ∷ []) []) 0 xs us ys zs alike
                (zero_alone c (xs ++ ys) is_zero none) (zero_alone c (xs ++ zs) is_zero (next ∙ none)) e
          ]
    ]

character_local : (c : ℕ) → IsLocal (character_escape c)
character_local c xs us ys zs alike e =
    further (character_escape c (xs ++ ys)) (character_escape c (xs ++ zs)) (character_escape c []) 0 xs us ys zs alike
    refl refl e

-- a digit, by what it is
digit_escape_by : (t : Bool) (c : ℕ) (P : (List ℕ → StringItem) → Type 0) → P (digit_in_template c)
    → P (octal_escape c) → P (character_escape c) → P (λ cs. digit_escape t c cs)
unfolding digit_escape
digit_escape_by true c P template octal character = template
digit_escape_by false c P template octal character =
    elim (true_or_false (is_digit_of 8 c)) [ inl e ↦ rw e octal | inr e ↦ rw e character ]

-- an escape, by what it is
escape_by : (t : Bool) (c : ℕ) (P : (List ℕ → StringItem) → Type 0) → P (line_continuation c)
    → P (λ cs. digits_escape c (hex_digits 2 cs)) → P (λ cs. digits_escape c (unicode_escape cs))
    → P (digit_escape t c) → P (character_escape c) → P (λ cs. escape t (c ∷ cs))
unfolding escape
escape_by t c P line_end unit code_point digit character =
    elim (true_or_false (is_line_terminator c)) [
      | inl line ↦ rw line line_end
      | inr line ↦
          elim (true_or_false (c == latin_small_letter_x)) [
            | inl x ↦ rw (line, x) unit
            | inr x ↦
                elim (true_or_false (c == latin_small_letter_u)) [
                  | inl u ↦ rw (line, x, u) code_point
                  | inr u ↦
                      elim (true_or_false (is_digit_of 10 c))
                      [ inl e ↦ rw (line, x, u, e) digit | inr e ↦ rw (line, x, u, e) character ]
                ]
          ]
    ]

digits_escape_local : (letter : ℕ) (find : List ℕ → UnicodeEscape)
    → ((xs us ys zs : List ℕ) → BeginAlike ys zs → (find (xs ++ ys)).rest ≡ us ++ ys
    → find (xs ++ zs) ≡ record (find (xs ++ ys)) { rest = us ++ zs })
    → IsLocal (λ cs. digits_escape letter (find cs))
digits_escape_local letter find local xs us ys zs alike e =
    let digits = find (xs ++ ys) in
    let left = sym (escape_rest (letter ∷ digits.text) digits.code_point digits.rest) ∙ e in
    ap (digits_escape letter) (local xs us ys zs alike left)
    ∙ escape_up_to (letter ∷ digits.text) digits.code_point digits.rest (us ++ zs)
  where
    escape_rest : (cs : List ℕ) (found : Option ℕ) (rest : List ℕ) → (escape_of cs found rest).rest ≡ rest
    escape_rest cs (Some c) rest = refl
    escape_rest cs None rest = refl

    escape_up_to : (cs : List ℕ) (found : Option ℕ) (rest other : List ℕ)
        → escape_of cs found other ≡ up_to (escape_of cs found rest) other
    escape_up_to cs (Some c) rest other = refl
    escape_up_to cs None rest other = refl

escape_behind : (t : Bool) (c : ℕ) → IsLocal (λ cs. escape t (c ∷ cs))
escape_behind t c =
    escape_by t c IsLocal (line_local c)
    (digits_escape_local c (hex_digits 2) (hex_digits_local 2))
    (digits_escape_local c unicode_escape unicode_escape_local)
    (digit_escape_by t c IsLocal (template_digit_local c) (octal_local c) (character_local c))
    (character_local c)

-- an escape has two characters at least
abbrev HasTwo : (List ℕ → StringItem) → Type 0
HasTwo find = (cs : List ℕ) → 1 < length (find cs).text

line_two : (c : ℕ) → HasTwo (line_continuation c)
line_two c cs =
    elim (true_or_false ((c == carriage_return) && begins (λ d. d == line_feed) cs)) [
      | inl two ↦ rw (continuation_is c cs true two) (omega arith)
      | inr one ↦ rw (continuation_is c cs false one) (omega arith)
    ]

digits_two : (letter : ℕ) (find : List ℕ → UnicodeEscape) → HasTwo (λ cs. digits_escape letter (find cs))
digits_two letter find cs = two (find cs).text (find cs).code_point (find cs).rest
  where
    two : (xs : List ℕ) (found : Option ℕ) (rest : List ℕ) → 1 < length (escape_of (letter ∷ xs) found rest).text
    two xs (Some c) rest = omega arith
    two xs None rest = omega arith

octal_two : (c : ℕ) → HasTwo (octal_escape c)
octal_two c cs =
    let more = octal_digits (further_octal_digits c) cs in
    rw (octal_escape_is c cs more (drop (length more) cs) refl refl) (omega arith)

template_digit_two : (c : ℕ) → HasTwo (digit_in_template c)
template_digit_two c cs =
    elim (true_or_false (c == digit_zero)) [
      | inr other ↦ rw (nonzero_in_template c cs other) (omega arith)
      | inl is_zero ↦
          elim (true_or_false (begins (is_digit_of 10) cs)) [
            | inl digit ↦ rw (zero_and_digit c cs is_zero digit) (omega arith)
            | inr none ↦ rw (zero_alone c cs is_zero none) (omega arith)
          ]
    ]

character_two : (c : ℕ) → HasTwo (character_escape c)
character_two c cs = omega arith

escape_two : (t : Bool) (c : ℕ) → HasTwo (λ cs. escape t (c ∷ cs))
escape_two t c =
    escape_by t c HasTwo (line_two c) (digits_two c (hex_digits 2)) (digits_two c unicode_escape)
    (digit_escape_by t c HasTwo (template_digit_two c) (octal_two c) (character_two c)) (character_two c)

-- An escape.
pub escape_local : (t : Bool) → IsLocal (escape t)
escape_local t [] us ys zs alike e =
    let here : escape t ys ≡ escape t (alike.first ∷ alike.rest) = ap (escape t) alike.here in
    let two = escape_two t alike.first alike.rest in
    let whole = (escape_is_one t ys).head.here in
    absurd
    (omega (
      arith,
      two,
      ap (λ (i : StringItem). length i.text) here,
      ap length whole,
      length-append (escape t ys).text (escape t ys).rest,
      ap length e,
      length-append us ys,
      ap length alike.here,
    ))
escape_local t (x ∷ xs) us ys zs alike e = escape_behind t x xs us ys zs alike e

-- A line end in a template.
pub carriage_return_local : IsLocal carriage_return_item
carriage_return_local xs us ys zs alike e =
    let next = sym (begins_alike (λ d. d == line_feed) (xs ++ ys) (xs ++ zs) (alike_behind xs ys zs alike)) in
    let here = carriage_return_item (xs ++ ys) in
    let there = carriage_return_item (xs ++ zs) in
    elim (true_or_false (begins (λ d. d == line_feed) (xs ++ ys))) [
      | inl two ↦
          further here there (line_end_item (carriage_return ∷ line_feed ∷ []) []) 1 xs us ys zs alike
          (carriage_return_two (xs ++ ys) two) (carriage_return_two (xs ++ zs) (next ∙ two)) e
      | inr one ↦
          further here there (line_end_item (carriage_return ∷ []) []) 0 xs us ys zs alike
          (carriage_return_one (xs ++ ys) one) (carriage_return_one (xs ++ zs) (next ∙ one)) e
    ]
