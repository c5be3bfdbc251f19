-- The items of names: what each takes of a text, and that a good one is the same whatever follows it.
use Rattle.std.proofs.Common.{◌≡◌, ℕ, zero, suc, ◌+◌, ◌*◌, ◌<◌, Bool, true, false, not, ◌&&◌, ◌==◌, List, [], ◌∷◌}
use Rattle.std.proofs.Common.{◌++◌, length, take, drop, refl, sym, ◌∙◌, ap, subst, arith, Option, Some, None, inl, inr}
use Rattle.std.proofs.Common.{append_assoc}
use Rattle.std.specs.Prelude.{codes, nat_lt, nat_le}
use Rattle.std.specs.Char.{digit_value}
use Rattle.std.specs.Char.Utf16.{is_high_surrogate, is_low_surrogate}
use Rattle.std.specs.Option.{option_map_or}
use Rattle.std.specs.Str.Parse.{AllDigits, digits_value}
use Rattle.std.proofs.lemmas.Bool.{eqb-true, ltb-true, leb-true}
use Rattle.unicode_ident.proofs.Computing.{unicode_ident}
use Rattle.js_text.specs.Ascii.{backslash}
use Rattle.js_text.specs.Characters.{begins, before_first, is_identifier_start, is_identifier_part}
use Rattle.js_kind.specs.Digits.{is_digit_of}
use Rattle.js_grammar.specs.Gap.{is_prefix}
use Rattle.js_grammar.specs.Name.{NameItem, NameFault, latin_small_letter_u, is_surrogate, low_surrogate_escape}
use Rattle.js_grammar.specs.Name.{surrogate_text, item_of_code_point, item_of_escape, escape_item, name_item}
use Rattle.js_grammar.specs.Name.{ordinary_item}
use Rattle.js_grammar.specs.Name.{good_escape, faulty_escape, has_escape}
use Rattle.js_grammar.specs.Name.NameFault.{bad_escape, not_allowed}
use Rattle.js_grammar.specs.UnicodeEscape.{UnicodeEscape, hex_digits, four_digits, digits_of_code_point, braced_digits}
use Rattle.js_grammar.specs.UnicodeEscape.{unicode_escape, is_no_hex_digit, last_code_point, left_curly_bracket}
use Rattle.js_grammar.specs.UnicodeEscape.{right_curly_bracket}
use Rattle.js_grammar.proofs.NumberItems.{true_or_false}
use Rattle.js_grammar.proofs.NumberSound.{first_is}
use Rattle.js_grammar.proofs.Tests.{and_true, prefix_is}
use Rattle.js_grammar.proofs.UnicodeEscapes.{all_hex_digits, without_brace, behind_brace, braced_whole, below_digit}

-- what a test says of the two characters that begin an escape
pub backslash_is_no_name : (is_identifier_start backslash ≡ false) × (is_identifier_part backslash ≡ false)
unfolding is_identifier_start is_identifier_part unicode_ident
backslash_is_no_name = (refl, refl)

-- the digits that are taken begin the text
digits_first : (most : ℕ) (text : List ℕ)
    → let ds = before_first is_no_hex_digit (take most text) in text ≡ ds ++ drop (length ds) text
digits_first zero text = refl
digits_first (suc most) [] = refl
digits_first (suc most) (c ∷ cs) =
    elim (true_or_false (is_digit_of 16 c)) [
      | inl is ↦ rw is (ap (λ t. c ∷ t) (digits_first most cs))
      | inr none ↦ rw none refl
    ]

code_point_first : (value : ℕ) (text : List ℕ)
    → text ≡ digits_of_code_point value text ++ drop (length (digits_of_code_point value text)) text
unfolding digits_of_code_point
code_point_first value [] = refl
code_point_first value (c ∷ cs) =
    elim (true_or_false (is_digit_of 16 c)) [
      | inl is ↦ elim (true_or_false (nat_lt last_code_point (value * 16 + digit_value c))) [
        | inl great ↦ rw (is, great) refl
        | inr small ↦ rw (is, small) (ap (λ t. c ∷ t) (code_point_first (value * 16 + digit_value c) cs))
      ]
      | inr none ↦ rw none refl
    ]

braced_first : (text : List ℕ) → left_curly_bracket ∷ text ≡ (braced_digits text).text ++ (braced_digits text).rest
unfolding braced_digits
braced_first text =
    let ds = digits_of_code_point 0 text in
    let rest = drop (length ds) text in
    elim (true_or_false (nat_lt 0 (length ds) && nat_le (digits_value 16 ds) last_code_point
    && begins (λ c. c == right_curly_bracket) rest)) [
      | inl closed ↦ (
          let brace = (and_true (nat_lt 0 (length ds) && nat_le (digits_value 16 ds) last_code_point)
          (begins (λ c. c == right_curly_bracket) rest) closed).1 in
          rw closed
          (ap (λ t. left_curly_bracket ∷ t)
          (code_point_first 0 text ∙ ap (λ t. ds ++ t) (first_is right_curly_bracket rest brace)
          ∙ sym (append_assoc ds (codes "}") (drop 1 rest)))))
      | inr none ↦ rw none (ap (λ t. left_curly_bracket ∷ t) (code_point_first 0 text))
    ]

-- What was taken of an escape and what is left are the text.
pub escape_first : (text : List ℕ) → text ≡ (unicode_escape text).text ++ (unicode_escape text).rest
unfolding unicode_escape four_digits
escape_first text =
    elim (true_or_false (begins (λ c. c == left_curly_bracket) text)) [
      | inl brace ↦ rw brace (first_is left_curly_bracket text brace ∙ braced_first (drop 1 text))
      | inr none ↦ rw none (digits_first 4 text)
    ]

-- and an escape with a code point is the same whatever follows it
digits_all : (most : ℕ) (text : List ℕ) → AllDigits 16 (before_first is_no_hex_digit (take most text))
digits_all zero text = tt
digits_all (suc most) [] = tt
digits_all (suc most) (c ∷ cs) =
    elim (true_or_false (is_digit_of 16 c)) [
      | inl is ↦ rw is (below_digit 16 c is, digits_all most cs)
      | inr none ↦ rw none tt
    ]

brace_is_no_digit : digit_value left_curly_bracket < 16 → ⊥
brace_is_no_digit h = absurd (omega arith)

digits_are_no_brace : (ds ys : List ℕ) → AllDigits 16 ds → 0 < length ds
    → begins (λ c. c == left_curly_bracket) (ds ++ ys) ≡ false
digits_are_no_brace [] ys all some = absurd (omega arith)
digits_are_no_brace (d ∷ ds) ys all some =
    elim (true_or_false (d == left_curly_bracket)) [
      | inl same ↦ absurd
          (brace_is_no_digit (subst (λ c. digit_value c < 16) (eqb-true d left_curly_bracket same) all.0))
      | inr other ↦ other
    ]

abbrev pub escape_of : List ℕ → ℕ → List ℕ → UnicodeEscape
escape_of xs c ys = record { text = xs; code_point = Some c; rest = ys }

four_anywhere : (text ys : List ℕ) (c : ℕ) → (hex_digits 4 text).code_point ≡ Some c
    → unicode_escape ((hex_digits 4 text).text ++ ys) ≡ escape_of (hex_digits 4 text).text c ys
four_anywhere text ys c e =
    let ds = before_first is_no_hex_digit (take 4 text) in
    elim (true_or_false (length ds == 4)) [
      | inl is ↦ (
          let four : length ds ≡ 4 = eqb-true (length ds) 4 is in
          let value : Some (digits_value 16 ds) ≡ Some c = rw is at e in
          let all = digits_all 4 text in
          without_brace (ds ++ ys) (digits_are_no_brace ds ys all (omega (arith, four)))
          ∙ all_hex_digits 4 ds ys all four
          ∙ ap (λ (o : Option ℕ). record { text = ds; code_point = o; rest = ys }) value)
      | inr other ↦ (let no : None ≡ Some c = rw other at e in absurd (cc))
    ]

brace_stops : is_digit_of 16 right_curly_bracket ≡ false
unfolding is_digit_of
brace_stops = refl

code_point_again : (value : ℕ) (text ys : List ℕ)
    → digits_of_code_point value (digits_of_code_point value text ++ (right_curly_bracket ∷ ys))
    ≡ digits_of_code_point value text
unfolding digits_of_code_point
code_point_again value [] ys = rw brace_stops refl
code_point_again value (c ∷ cs) ys =
    elim (true_or_false (is_digit_of 16 c)) [
      | inl is ↦ elim (true_or_false (nat_lt last_code_point (value * 16 + digit_value c))) [
        | inl great ↦ rw (is, great) (rw (is, great) refl)
        | inr small ↦
            rw (is, small)
            (rw (is, small) (ap (λ t. c ∷ t) (code_point_again (value * 16 + digit_value c) cs ys)))
      ]
      | inr none ↦ rw none (rw brace_stops refl)
    ]

braced_anywhere : (text ys : List ℕ) (c : ℕ) → (braced_digits text).code_point ≡ Some c
    → unicode_escape ((braced_digits text).text ++ ys) ≡ escape_of (braced_digits text).text c ys
unfolding braced_digits
braced_anywhere text ys c e =
    let ds = digits_of_code_point 0 text in
    let rest = drop (length ds) text in
    elim (true_or_false (nat_lt 0 (length ds) && nat_le (digits_value 16 ds) last_code_point
    && begins (λ c. c == right_curly_bracket) rest)) [
      | inl closed ↦ (
          let digits = (and_true (nat_lt 0 (length ds) && nat_le (digits_value 16 ds) last_code_point)
          (begins (λ c. c == right_curly_bracket) rest) closed).0 in
          let both = and_true (nat_lt 0 (length ds)) (nat_le (digits_value 16 ds) last_code_point) digits in
          let value : Some (digits_value 16 ds) ≡ Some c = rw closed at e in
          rw closed
          (behind_brace ((ds ++ codes "}") ++ ys)
          ∙ ap braced_digits (append_assoc ds (codes "}") ys)
          ∙ braced_whole ds ys (code_point_again 0 text ys) (ltb-true 0 (length ds) both.0)
          (leb-true (digits_value 16 ds) last_code_point both.1)
          ∙ ap (λ (o : Option ℕ). record { text = codes "{" ++ ds ++ codes "}"; code_point = o; rest = ys }) value))
      | inr none ↦ (let no : None ≡ Some c = rw none at e in absurd (cc))
    ]

with_brace : (text : List ℕ) → begins (λ c. c == left_curly_bracket) text ≡ true
    → unicode_escape text ≡ braced_digits (drop 1 text)
unfolding unicode_escape
with_brace text brace = rw brace refl

pub escape_anywhere : (text ys : List ℕ) (c : ℕ) → (unicode_escape text).code_point ≡ Some c
    → unicode_escape ((unicode_escape text).text ++ ys) ≡ escape_of (unicode_escape text).text c ys
escape_anywhere text ys c e =
    elim (true_or_false (begins (λ c. c == left_curly_bracket) text)) [
      | inl brace ↦ (
          let same = with_brace text brace in
          subst (λ (u : UnicodeEscape). unicode_escape (u.text ++ ys) ≡ escape_of u.text c ys) (sym same)
          (braced_anywhere (drop 1 text) ys c (ap (λ (u : UnicodeEscape). u.code_point) (sym same) ∙ e)))
      | inr none ↦ (
          let same = without_brace text none in
          subst (λ (u : UnicodeEscape). unicode_escape (u.text ++ ys) ≡ escape_of u.text c ys) (sym same)
          (four_anywhere text ys c (ap (λ (u : UnicodeEscape). u.code_point) (sym same) ∙ e)))
    ]

-- these characters begin the text
abbrev Starts : List ℕ → List ℕ → Type 0
Starts xs text = (left : List ℕ) × (text ≡ xs ++ left)

low_first : (text : List ℕ) → Starts (low_surrogate_escape text) text
unfolding low_surrogate_escape four_digits
low_first text =
    let mark : List ℕ = backslash ∷ latin_small_letter_u ∷ [] in
    let digits = hex_digits 4 (drop 2 text) in
    elim (true_or_false (is_prefix mark text && option_map_or is_low_surrogate digits.code_point false)) [
      | inl there ↦ (
          let both = and_true (is_prefix mark text) (option_map_or is_low_surrogate digits.code_point false) there in
          rw there (
            digits.rest,
            prefix_is mark text both.0 ∙ ap (λ t. backslash ∷ latin_small_letter_u ∷ t) (digits_first 4 (drop 2 text)),
          ))
      | inr none ↦ rw none (text, refl)
    ]

-- a low surrogate's escape, by what begins the text
pub no_low_mark : (text : List ℕ) → begins (λ c. c == backslash) text ≡ false → low_surrogate_escape text ≡ []
unfolding low_surrogate_escape
no_low_mark [] e = refl
no_low_mark (c ∷ cs) e = rw e refl

pub no_low_letter : (cs : List ℕ) → begins (λ c. c == latin_small_letter_u) cs ≡ false
    → low_surrogate_escape (backslash ∷ cs) ≡ []
unfolding low_surrogate_escape
no_low_letter [] e = refl
no_low_letter (c ∷ cs) e = rw e refl

abbrev low_text : List ℕ → List ℕ
low_text cs = backslash ∷ latin_small_letter_u ∷ cs

pub low_there : (cs : List ℕ) (c : ℕ) → (hex_digits 4 cs).code_point ≡ Some c → is_low_surrogate c ≡ true
    → low_text cs ≡ low_surrogate_escape (low_text cs) ++ (hex_digits 4 cs).rest
unfolding low_surrogate_escape four_digits
low_there cs c e is = rw (e, is) (ap (λ t. backslash ∷ latin_small_letter_u ∷ t) (digits_first 4 cs))

pub no_low : (cs : List ℕ) → option_map_or is_low_surrogate (hex_digits 4 cs).code_point false ≡ false
    → low_surrogate_escape (low_text cs) ≡ []
unfolding low_surrogate_escape four_digits
no_low cs e = rw e refl

braced_text : (text : List ℕ) → begins (λ c. c == left_curly_bracket) (braced_digits text).text ≡ true
unfolding braced_digits
braced_text text =
    let ds = digits_of_code_point 0 text in
    elim (true_or_false (nat_lt 0 (length ds) && nat_le (digits_value 16 ds) last_code_point
    && begins (λ c. c == right_curly_bracket) (drop (length ds) text))) [
      | inl closed ↦ rw closed refl
      | inr none ↦ rw none refl
    ]

-- braces are told by what begins the escape
pub brace_begins : (text : List ℕ)
    → begins (λ c. c == left_curly_bracket) (unicode_escape text).text ≡ begins (λ c. c == left_curly_bracket) text
brace_begins text =
    elim (true_or_false (begins (λ c. c == left_curly_bracket) text)) [
      | inl brace ↦
          ap (λ (u : UnicodeEscape). begins (λ c. c == left_curly_bracket) u.text) (with_brace text brace)
          ∙ braced_text (drop 1 text) ∙ sym brace
      | inr none ↦
          ap (λ (u : UnicodeEscape). begins (λ c. c == left_curly_bracket) u.text) (without_brace text none)
          ∙ no_brace (before_first is_no_hex_digit (take 4 text)) (digits_all 4 text) ∙ sym none
    ]
  where
    no_brace : (ds : List ℕ) → AllDigits 16 ds → begins (λ c. c == left_curly_bracket) ds ≡ false
    no_brace [] all = refl
    no_brace (d ∷ ds) all = digits_are_no_brace (d ∷ ds) [] all (omega arith)

surrogate_first : (c : ℕ) (text : List ℕ) → Starts (surrogate_text c (unicode_escape text)) text
unfolding surrogate_text
surrogate_first c text =
    let escape = unicode_escape text in
    elim (true_or_false (is_high_surrogate c && not (begins (λ d. d == left_curly_bracket) escape.text))) [
      | inl high ↦ (
          let low = low_first escape.rest in
          rw high (
            low.0,
            escape_first text ∙ ap (λ t. escape.text ++ t) low.1
                ∙ sym (append_assoc escape.text (low_surrogate_escape escape.rest) low.0),
          ))
      | inr other ↦ rw other (escape.rest, escape_first text)
    ]

-- Which item an escape is, case by case.
pub of_code_point : (allowed : ℕ → Bool) (c : ℕ) (escape : UnicodeEscape) → escape.code_point ≡ Some c
    → item_of_escape allowed escape ≡ item_of_code_point allowed escape c
unfolding item_of_escape
of_code_point allowed c escape e = rw e refl

pub of_no_code_point : (allowed : ℕ → Bool) (escape : UnicodeEscape) → escape.code_point ≡ None
    → item_of_escape allowed escape ≡ faulty_escape (backslash ∷ latin_small_letter_u ∷ escape.text) bad_escape
unfolding item_of_escape
of_no_code_point allowed escape e = rw e refl

pub of_allowed : (allowed : ℕ → Bool) (c : ℕ) (escape : UnicodeEscape) → is_surrogate c ≡ false → allowed c ≡ true
    → item_of_code_point allowed escape c ≡ good_escape (backslash ∷ latin_small_letter_u ∷ escape.text) c
unfolding item_of_code_point
of_allowed allowed c escape none is = rw (none, is) refl

pub of_not_allowed : (allowed : ℕ → Bool) (c : ℕ) (escape : UnicodeEscape) → is_surrogate c ≡ false
    → allowed c ≡ false
    → item_of_code_point allowed escape c
    ≡ faulty_escape (backslash ∷ latin_small_letter_u ∷ escape.text) (not_allowed c)
unfolding item_of_code_point
of_not_allowed allowed c escape none other = rw (none, other) refl

pub of_surrogate : (allowed : ℕ → Bool) (c : ℕ) (escape : UnicodeEscape) → is_surrogate c ≡ true
    → item_of_code_point allowed escape c
    ≡ faulty_escape (backslash ∷ latin_small_letter_u ∷ surrogate_text c escape) bad_escape
unfolding item_of_code_point
of_surrogate allowed c escape is = rw is refl

pub surrogate_alone : (c : ℕ) (escape : UnicodeEscape)
    → (is_high_surrogate c && not (begins (λ d. d == left_curly_bracket) escape.text)) ≡ false
    → surrogate_text c escape ≡ escape.text
unfolding surrogate_text
surrogate_alone c escape e = rw e refl

pub surrogate_pair : (c : ℕ) (escape : UnicodeEscape)
    → (is_high_surrogate c && not (begins (λ d. d == left_curly_bracket) escape.text)) ≡ true
    → surrogate_text c escape ≡ escape.text ++ low_surrogate_escape escape.rest
unfolding surrogate_text
surrogate_pair c escape e = rw e refl

pub escape_there : (allowed : ℕ → Bool) (cs : List ℕ)
    → escape_item allowed (latin_small_letter_u ∷ cs) ≡ item_of_escape allowed (unicode_escape cs)
unfolding escape_item
escape_there allowed cs = refl

pub other_escape : (allowed : ℕ → Bool) (c : ℕ) (cs : List ℕ) → (c == latin_small_letter_u) ≡ false
    → escape_item allowed (c ∷ cs) ≡ faulty_escape (backslash ∷ c ∷ []) bad_escape
unfolding escape_item
other_escape allowed c cs other = rw other refl

pub no_escape : (allowed : ℕ → Bool) → escape_item allowed [] ≡ faulty_escape (backslash ∷ []) bad_escape
unfolding escape_item
no_escape allowed = refl

-- What an item takes of the text behind a `\`.
pub record TakesEscape (text : List ℕ) (item : NameItem) : Type 0 where
  pub taken : List ℕ
  pub left : List ℕ
  pub here : text ≡ taken ++ left
  pub text_is : item.text ≡ backslash ∷ taken
  pub is_escape : item.is_escape ≡ true

marked : (xs cs : List ℕ) → Starts xs cs
    → Starts (latin_small_letter_u ∷ xs) (latin_small_letter_u ∷ cs)
marked xs cs (left, here) = (left, ap (λ t. latin_small_letter_u ∷ t) here)

faulty_takes : (xs text : List ℕ) (fault : NameFault) → Starts xs text
    → TakesEscape text (faulty_escape (backslash ∷ xs) fault)
faulty_takes xs text fault (left, here) =
    record { taken = xs; left = left; here = here; text_is = refl; is_escape = refl }

good_takes : (xs text : List ℕ) (c : ℕ) → Starts xs text → TakesEscape text (good_escape (backslash ∷ xs) c)
good_takes xs text c (left, here) =
    record { taken = xs; left = left; here = here; text_is = refl; is_escape = refl }

code_point_takes : (allowed : ℕ → Bool) (c : ℕ) (cs : List ℕ)
    → TakesEscape (latin_small_letter_u ∷ cs) (item_of_code_point allowed (unicode_escape cs) c)
unfolding item_of_code_point
code_point_takes allowed c cs =
    let escape = unicode_escape cs in
    let whole = marked escape.text cs (escape.rest, escape_first cs) in
    elim (true_or_false (is_surrogate c)) [
      | inl surrogate ↦
          rw surrogate
          (faulty_takes (latin_small_letter_u ∷ surrogate_text c escape) (latin_small_letter_u ∷ cs) bad_escape
          (marked (surrogate_text c escape) cs (surrogate_first c cs)))
      | inr none ↦ elim (true_or_false (allowed c)) [
        | inl is ↦
            rw (none, is) (good_takes (latin_small_letter_u ∷ escape.text) (latin_small_letter_u ∷ cs) c whole)
        | inr other ↦
            rw (none, other)
            (faulty_takes (latin_small_letter_u ∷ escape.text) (latin_small_letter_u ∷ cs) (not_allowed c) whole)
      ]
    ]

unicode_takes : (allowed : ℕ → Bool) (cs : List ℕ)
    → TakesEscape (latin_small_letter_u ∷ cs) (item_of_escape allowed (unicode_escape cs))
unfolding item_of_escape
unicode_takes allowed cs = by_code_point (unicode_escape cs).code_point refl
  where
    by_code_point : (o : Option ℕ) → (unicode_escape cs).code_point ≡ o
        → TakesEscape (latin_small_letter_u ∷ cs) (item_of_escape allowed (unicode_escape cs))
    by_code_point None e =
        rw e
        (faulty_takes (latin_small_letter_u ∷ (unicode_escape cs).text) (latin_small_letter_u ∷ cs) bad_escape
        (marked (unicode_escape cs).text cs ((unicode_escape cs).rest, escape_first cs)))
    by_code_point (Some c) e =
        subst (λ x. TakesEscape (latin_small_letter_u ∷ cs) x) (sym (of_code_point allowed c (unicode_escape cs) e))
        (code_point_takes allowed c cs)

pub escape_takes : (allowed : ℕ → Bool) (text : List ℕ) → TakesEscape text (escape_item allowed text)
unfolding escape_item
escape_takes allowed [] = faulty_takes [] [] bad_escape ([], refl)
escape_takes allowed (c ∷ cs) =
    elim (true_or_false (c == latin_small_letter_u)) [
      | inl is ↦ by_mark c cs (eqb-true c latin_small_letter_u is)
      | inr other ↦ rw other (faulty_takes (c ∷ []) (c ∷ cs) bad_escape (cs, refl))
    ]
  where
    by_mark : (c : ℕ) (cs : List ℕ) → c ≡ latin_small_letter_u
        → TakesEscape (c ∷ cs) (escape_item allowed (c ∷ cs))
    by_mark c cs same =
        subst (λ d. TakesEscape (d ∷ cs) (escape_item allowed (d ∷ cs))) (sym same) (unicode_takes allowed cs)

-- What an item is of the text that begins with it.
pub record TakesItem (text : List ℕ) (item : NameItem) : Type 0 where
  pub left : List ℕ
  pub here : text ≡ item.text ++ left
  pub some : 0 < length item.text
  pub escape : has_escape item.text ≡ item.is_escape
  pub whole : item.is_escape ≡ false → item.fault ≡ None
  pub plain : item.is_escape ≡ false → item.value ≡ item.text

pub escape_is_item : (text : List ℕ) (item : NameItem) → TakesEscape text item → TakesItem (backslash ∷ text) item
escape_is_item text item takes = record {
  left = takes.left;
  here = ap (λ t. backslash ∷ t) takes.here ∙ ap (λ t. t ++ takes.left) (sym takes.text_is);
  some = subst (λ t. 0 < length t) (sym takes.text_is) (omega arith);
  escape = ap has_escape takes.text_is ∙ sym takes.is_escape;
  whole = λ none. let no : true ≡ false = sym takes.is_escape ∙ none in absurd (cc);
  plain = λ none. let no : true ≡ false = sym takes.is_escape ∙ none in absurd (cc);
}

plain_is_item : (c : ℕ) (cs : List ℕ) → (c == backslash) ≡ false → TakesItem (c ∷ cs) (ordinary_item c)
plain_is_item c cs other = record {
  left = cs;
  here = refl;
  some = omega arith;
  escape = rw other refl;
  whole = λ none. refl;
  plain = λ none. refl;
}

pub item_takes : (allowed : ℕ → Bool) (text : List ℕ) (item : NameItem) → name_item allowed text ≡ Some item
    → TakesItem text item
item_takes allowed [] item e = absurd (cc)
item_takes allowed (c ∷ cs) item e =
    elim (true_or_false (c == backslash)) [
      | inl mark ↦ (
          let is : Some (escape_item allowed cs) ≡ Some item = rw mark at e in
          let same : escape_item allowed cs ≡ item = cc in
          subst (λ x. TakesItem (c ∷ cs) x) same
          (subst (λ d. TakesItem (d ∷ cs) (escape_item allowed cs)) (sym (eqb-true c backslash mark))
          (escape_is_item cs (escape_item allowed cs) (escape_takes allowed cs))))
      | inr other ↦ elim (true_or_false (allowed c)) [
        | inl is ↦ (
            let found : Some (ordinary_item c) ≡ Some item = rw (other, is) at e in
            let same : ordinary_item c ≡ item = cc in
            subst (λ x. TakesItem (c ∷ cs) x) same (plain_is_item c cs other))
        | inr none ↦ (let no : None ≡ Some item = rw (other, none) at e in absurd (cc))
      ]
    ]

-- A good item is the same whatever follows it.
good_code_point : (allowed : ℕ → Bool) (c : ℕ) (escape : UnicodeEscape)
    → (item_of_code_point allowed escape c).fault ≡ None
    → (is_surrogate c ≡ false) × (allowed c ≡ true)
unfolding item_of_code_point
good_code_point allowed c escape good =
    elim (true_or_false (is_surrogate c)) [
      | inl surrogate ↦ (let no : Some bad_escape ≡ None = rw surrogate at good in absurd (cc))
      | inr none ↦ elim (true_or_false (allowed c)) [
        | inl is ↦ (none, is)
        | inr other ↦ (let no : Some (not_allowed c) ≡ None = rw (none, other) at good in absurd (cc))
      ]
    ]

good_unicode : (allowed : ℕ → Bool) (cs ys : List ℕ) → (item_of_escape allowed (unicode_escape cs)).fault ≡ None
    → item_of_escape allowed (unicode_escape ((unicode_escape cs).text ++ ys))
    ≡ item_of_escape allowed (unicode_escape cs)
good_unicode allowed cs ys good = by_code_point (unicode_escape cs).code_point refl
  where
    by_code_point : (o : Option ℕ) → (unicode_escape cs).code_point ≡ o
        → item_of_escape allowed (unicode_escape ((unicode_escape cs).text ++ ys))
        ≡ item_of_escape allowed (unicode_escape cs)
    by_code_point None e =
        let no : Some bad_escape ≡ None =
        ap (λ (x : NameItem). x.fault) (sym (of_no_code_point allowed (unicode_escape cs) e)) ∙ good in
        absurd (cc)
    by_code_point (Some c) e =
        let escape = unicode_escape cs in
        let here = of_code_point allowed c escape e in
        let is = good_code_point allowed c escape (ap (λ (x : NameItem). x.fault) (sym here) ∙ good) in
        ap (item_of_escape allowed) (escape_anywhere cs ys c e)
        ∙ of_code_point allowed c (escape_of escape.text c ys) refl
        ∙ of_allowed allowed c (escape_of escape.text c ys) is.0 is.1
        ∙ sym (here ∙ of_allowed allowed c escape is.0 is.1)

unicode_text : (allowed : ℕ → Bool) (cs : List ℕ) → (item_of_escape allowed (unicode_escape cs)).fault ≡ None
    → (item_of_escape allowed (unicode_escape cs)).text ≡ backslash ∷ latin_small_letter_u ∷ (unicode_escape cs).text
unicode_text allowed cs good = by_code_point (unicode_escape cs).code_point refl
  where
    by_code_point : (o : Option ℕ) → (unicode_escape cs).code_point ≡ o
        → (item_of_escape allowed (unicode_escape cs)).text
        ≡ backslash ∷ latin_small_letter_u ∷ (unicode_escape cs).text
    by_code_point None e =
        let no : Some bad_escape ≡ None =
        ap (λ (x : NameItem). x.fault) (sym (of_no_code_point allowed (unicode_escape cs) e)) ∙ good in
        absurd (cc)
    by_code_point (Some c) e =
        let escape = unicode_escape cs in
        let here = of_code_point allowed c escape e in
        let is = good_code_point allowed c escape (ap (λ (x : NameItem). x.fault) (sym here) ∙ good) in
        ap (λ (x : NameItem). x.text) (here ∙ of_allowed allowed c escape is.0 is.1)

escaped_anywhere : (allowed : ℕ → Bool) (cs ys : List ℕ) → (escape_item allowed cs).fault ≡ None
    → name_item allowed ((escape_item allowed cs).text ++ ys) ≡ Some (escape_item allowed cs)
escaped_anywhere allowed [] ys good =
    let no : Some bad_escape ≡ None = ap (λ (x : NameItem). x.fault) (sym (no_escape allowed)) ∙ good in
    absurd (cc)
escaped_anywhere allowed (c ∷ cs) ys good =
    elim (true_or_false (c == latin_small_letter_u)) [
      | inl is ↦ by_mark c cs (eqb-true c latin_small_letter_u is) good
      | inr other ↦ (
          let no : Some bad_escape ≡ None =
          ap (λ (x : NameItem). x.fault) (sym (other_escape allowed c cs other)) ∙ good in
          absurd (cc))
    ]
  where
    marked_anywhere : (cs : List ℕ) → (escape_item allowed (latin_small_letter_u ∷ cs)).fault ≡ None
        → name_item allowed ((escape_item allowed (latin_small_letter_u ∷ cs)).text ++ ys)
        ≡ Some (escape_item allowed (latin_small_letter_u ∷ cs))
    marked_anywhere cs good =
        let is = ap (λ (x : NameItem). x.fault) (sym (escape_there allowed cs)) ∙ good in
        let text = ap (λ (x : NameItem). x.text) (escape_there allowed cs) ∙ unicode_text allowed cs is in
        ap (λ t. name_item allowed (t ++ ys)) text
        ∙ ap Some
        (escape_there allowed ((unicode_escape cs).text ++ ys) ∙ good_unicode allowed cs ys is
        ∙ sym (escape_there allowed cs))

    by_mark : (c : ℕ) (cs : List ℕ) → c ≡ latin_small_letter_u → (escape_item allowed (c ∷ cs)).fault ≡ None
        → name_item allowed ((escape_item allowed (c ∷ cs)).text ++ ys) ≡ Some (escape_item allowed (c ∷ cs))
    by_mark c cs same =
        subst
        (λ d. (escape_item allowed (d ∷ cs)).fault ≡ None
        → name_item allowed ((escape_item allowed (d ∷ cs)).text ++ ys) ≡ Some (escape_item allowed (d ∷ cs)))
        (sym same) (marked_anywhere cs)

pub item_anywhere : (allowed : ℕ → Bool) (text ys : List ℕ) (item : NameItem) → name_item allowed text ≡ Some item
    → item.fault ≡ None
    → name_item allowed (item.text ++ ys) ≡ Some item
item_anywhere allowed [] ys item e good = absurd (cc)
item_anywhere allowed (c ∷ cs) ys item e good =
    elim (true_or_false (c == backslash)) [
      | inl mark ↦ (
          let is : Some (escape_item allowed cs) ≡ Some item = rw mark at e in
          let same : escape_item allowed cs ≡ item = cc in
          subst (λ (x : NameItem). name_item allowed (x.text ++ ys) ≡ Some x) same
          (escaped_anywhere allowed cs ys (ap (λ (x : NameItem). x.fault) same ∙ good)))
      | inr other ↦ elim (true_or_false (allowed c)) [
        | inl is ↦ (
            let found : Some (ordinary_item c) ≡ Some item = rw (other, is) at e in
            let same : ordinary_item c ≡ item = cc in
            subst (λ (x : NameItem). name_item allowed (x.text ++ ys) ≡ Some x) same (rw (other, is) refl))
        | inr none ↦ (let no : None ≡ Some item = rw (other, none) at e in absurd (cc))
      ]
    ]
