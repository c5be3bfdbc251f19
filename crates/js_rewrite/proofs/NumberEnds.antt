-- The last character of a number: one that goes on with a name, or a point.
use Rattle.std.proofs.Common.{◌≡◌, ℕ, ◌≤◌, Bool, true, false, not, ◌||◌, ◌==◌, List, [], ◌∷◌, ◌++◌, drop, refl, sym}
use Rattle.std.proofs.Common.{◌∙◌, ap, subst, arith, append-nil, append_assoc, Option, Some, None, inl, inr, ◌⊎◌}
use Rattle.std.specs.Prelude.{codes, unwrap_or}
use Rattle.std.specs.List.{last_or, list_all}
use Rattle.std.proofs.lemmas.Bool.{and_parts, eqb-true}
use Rattle.unicode_ident.specs.Ident.{is_xid_continue, is_xid_start}
use Rattle.unicode_ident.proofs.Computing.{unicode_ident}
use Rattle.unicode_ident.proofs.IdentLemmas.{is_xid_start-is_xid_continue}
use Rattle.js_text.specs.Ascii.{full_stop, low_line}
use Rattle.js_text.specs.Characters.{begins, is_identifier_part, is_identifier_start}
use Rattle.js_kind.specs.Digits.{is_digit_of}
use Rattle.js_kind.specs.declared.kind.Kind.{Kind}
use Rattle.js_grammar.specs.Number.{Is, IsExponent, IsFloatExponent, IsNumber, IsOptional, Item, are_digits}
use Rattle.js_grammar.specs.Number.{digit_zero, digits_on, integer, may_not_follow_number, run}
use Rattle.js_grammar.specs.Number.{sign_text, whole}
use Rattle.js_grammar.specs.Number.IsExponent.{exponent}
use Rattle.js_grammar.specs.Number.IsLegacyDecimal.{legacy as legacy_decimal_digits}
use Rattle.js_grammar.specs.Number.IsLegacyOctal.{legacy as legacy_octal_digits}
use Rattle.js_grammar.specs.Number.IsNumber.{prefixed, prefixed_big, decimal, decimal_big, with_point, with_exponent}
use Rattle.js_grammar.specs.Number.IsNumber.{point_first, legacy_octal, legacy_decimal}
use Rattle.js_grammar.proofs.NumberClasses.{all_below, below, digit_is_ascii, digit_more, or_true}
use Rattle.js_grammar.proofs.NumberItems.{run_begins, true_or_false}
use Rattle.js_grammar.proofs.NumberShapes.{base_is_small}
use Rattle.js_rewrite.proofs.Following.{last_character}

implies : (a b : Bool) → (not a || b) ≡ true → a ≡ true → b ≡ true
implies true b e h = e
implies false b e h = absurd (cc)

digits_are_parts : all_below (λ c. not (is_digit_of 16 c) || is_identifier_part c) 128 ≡ true
unfolding is_digit_of is_identifier_part unicode_ident
digits_are_parts = refl

-- a digit goes on with a name
pub digit_is_part : (radix c : ℕ) → radix ≤ 16 → is_digit_of radix c ≡ true → is_identifier_part c ≡ true
digit_is_part radix c h e =
    let digit = digit_more radix 16 c h e in
    implies (is_digit_of 16 c) (is_identifier_part c)
    (below (λ c. not (is_digit_of 16 c) || is_identifier_part c) 128 c digits_are_parts (digit_is_ascii c digit)) digit

letters_are_parts : (is_identifier_part 95 ≡ true) × (is_identifier_part 110 ≡ true)
unfolding is_identifier_part unicode_ident
letters_are_parts = (refl, refl)

-- so does a character that begins one
pub start_is_part : (c : ℕ) → is_identifier_start c ≡ true → is_identifier_part c ≡ true
unfolding is_identifier_start is_identifier_part
start_is_part c e = by_start (is_xid_start c) refl e
  where
    or_any : (a b : Bool) → (a || (true || b)) ≡ true
    or_any true b = refl
    or_any false b = refl

    by_start : (b : Bool) → is_xid_start c ≡ b → (b || ((c == 36) || (c == 95))) ≡ true
        → (is_xid_continue c || ((c == 36) || ((c == 0x200C) || (c == 0x200D)))) ≡ true
    by_start true is f = rw (is_xid_start-is_xid_continue c is) refl
    by_start false is f =
        elim (or_true (c == 36) (c == 95) f) [
          | inl dollar ↦ rw dollar (or_any (is_xid_continue c) ((c == 0x200C) || (c == 0x200D)))
          | inr line ↦ ap is_identifier_part (eqb-true c 95 line) ∙ letters_are_parts.0
        ]

-- what may not follow a number goes on with a name
pub excluded_is_part : (c : ℕ) → may_not_follow_number c ≡ true → is_identifier_part c ≡ true
unfolding may_not_follow_number
excluded_is_part c e =
    elim (or_true (is_digit_of 10 c) (is_identifier_start c) e) [
      | inl digit ↦ digit_is_part 10 c (omega arith) digit
      | inr start ↦ start_is_part c start
    ]

-- an item without its first character
abbrev uncons : Item → Item
uncons item = record item { text = drop 1 item.text }

run_parts : (radix : ℕ) (xs : List ℕ) → radix ≤ 16 → digits_on radix xs ≡ whole xs []
    → list_all is_identifier_part xs ≡ true
run_parts radix [] h e = refl
run_parts radix (c ∷ cs) h e =
    elim (true_or_false (is_digit_of radix c)) [
      | inl digit ↦ (
          let rest = ap uncons (rw digit at e) in
          rw (digit_is_part radix c h digit) (run_parts radix cs h rest))
      | inr other ↦ elim (true_or_false (c == low_line)) [
        | inl mark ↦ elim (true_or_false (begins (is_digit_of radix) cs)) [
          | inl digit ↦ (
              let rest = ap uncons (rw (other, mark, digit) at e) in
              rw (ap is_identifier_part (eqb-true c low_line mark) ∙ letters_are_parts.0) (run_parts radix cs h rest))
          | inr none ↦
              (let h : true ≡ false = ap (λ (i : Item). i.lacks_digit) (rw (other, mark, none) at e) in absurd (cc))
        ]
        | inr end ↦ (let h : [] ≡ c ∷ cs = ap (λ (i : Item). i.text) (rw (other, end) at e) in absurd (cc))
      ]
    ]

-- characters at least one of which there is, and that all go on with a name
pub record Parts (xs : List ℕ) : Type 0 where
  pub some : xs ≡ [] → ⊥
  pub all : list_all is_identifier_part xs ≡ true

some_begin : (p : ℕ → Bool) (xs : List ℕ) → begins p xs ≡ true → xs ≡ [] → ⊥
some_begin p [] e none = cc
some_begin p (x ∷ xs) e none = cc

parts_of_run : (radix : ℕ) (xs : List ℕ) → radix ≤ 16 → Is (run radix) xs → Parts xs
unfolding run
parts_of_run radix xs h is =
    let digit = run_begins radix xs is in
    record { some = some_begin (is_digit_of radix) xs digit; all = run_parts radix xs h (rw digit at is) }

zero_is_part : list_all is_identifier_part (codes "0") ≡ true
unfolding is_identifier_part unicode_ident
zero_is_part = refl

parts_of_integer : (xs : List ℕ) → Is integer xs → Parts xs
unfolding integer
parts_of_integer xs is =
    elim (true_or_false (begins (λ c. c == digit_zero) xs)) [
      | inl zero ↦ (
          let same : codes "0" ≡ xs = ap (λ (i : Item). i.text) (rw zero at is) in
          subst Parts same (record { some = λ no. absurd (cc); all = zero_is_part }))
      | inr other ↦ parts_of_run 10 xs (omega arith) (rw other at is)
    ]

parts_of_digits : (radix : ℕ) (xs : List ℕ) → radix ≤ 16 → are_digits radix xs ≡ true
    → list_all is_identifier_part xs ≡ true
parts_of_digits radix [] h e = refl
parts_of_digits radix (c ∷ cs) h e =
    let both = and_parts (is_digit_of radix c) (are_digits radix cs) e in
    rw (digit_is_part radix c h both.0) (parts_of_digits radix cs h both.1)

-- the last of characters that end with some
pub last_over : (o p : Option ℕ) (xs : List ℕ) (y : ℕ) (ys : List ℕ)
    → last_or o (xs ++ y ∷ ys) ≡ last_or p (y ∷ ys)
last_over o p [] y ys = refl
last_over o p (x ∷ xs) y ys = last_over (Some x) p xs y ys

-- The last character goes on with a name, or is a point.
abbrev pub EndsNumber : List ℕ → Type 0
EndsNumber xs = (is_identifier_part (last_character xs) ≡ true) ⊎ (last_character xs ≡ full_stop)

last_part : (c : ℕ) (xs : List ℕ) → is_identifier_part c ≡ true → list_all is_identifier_part xs ≡ true
    → is_identifier_part (unwrap_or (last_or (Some c) xs) 0) ≡ true
last_part c [] e all = e
last_part c (x ∷ xs) e all =
    let both = and_parts (is_identifier_part x) (list_all is_identifier_part xs) all in last_part x xs both.0 both.1

parts_end : (front xs : List ℕ) → Parts xs → EndsNumber (front ++ xs)
parts_end front [] p = absurd (p.some refl)
parts_end front (x ∷ xs) p =
    let both = and_parts (is_identifier_part x) (list_all is_identifier_part xs) p.all in
    inl
    (subst (λ o. is_identifier_part (unwrap_or o 0) ≡ true) (sym (last_over None None front x xs))
    (last_part x xs both.0 both.1))

ends_with : (front : List ℕ) (c : ℕ) → is_identifier_part c ≡ true → EndsNumber (front ++ c ∷ [])
ends_with front c e = parts_end front (c ∷ []) (record { some = λ no. absurd (cc); all = rw e refl })

point_ends : (front : List ℕ) → EndsNumber (front ++ codes ".")
point_ends front = inr (ap (λ o. unwrap_or o 0) (last_over None None front full_stop []))

exponent_ends : (front xs : List ℕ) (kind : Kind) → IsExponent xs kind → EndsNumber (front ++ xs)
exponent_ends front xs kind (exponent mark sign digits is_mark is here kind_is) =
    subst EndsNumber
    (append_assoc front (mark ∷ sign_text sign) digits ∙ ap (λ z. front ++ z) (sym here))
    (parts_end (front ++ (mark ∷ sign_text sign)) digits (parts_of_run 10 digits (omega arith) is))

legacy_ends : (radix : ℕ) (digits : List ℕ) → radix ≤ 16 → are_digits radix digits ≡ true
    → EndsNumber (digit_zero ∷ digits)
legacy_ends radix digits h all =
    parts_end [] (digit_zero ∷ digits) (record {
      some = λ no. absurd (cc);
      all = rw (and_parts (is_identifier_part digit_zero) true zero_is_part).0 (parts_of_digits radix digits h all);
    })

-- what stands behind the point
behind_point : (front fraction power : List ℕ) → IsOptional (Is (run 10)) fraction
    → IsOptional IsFloatExponent power → EndsNumber (((front ++ codes ".") ++ fraction) ++ power)
behind_point front fraction power is_fraction (inr is) =
    exponent_ends ((front ++ codes ".") ++ fraction) power is.0 is.1
behind_point front fraction power (inr is) (inl none) =
    subst EndsNumber (sym (append-nil ((front ++ codes ".") ++ fraction))
    ∙ ap (λ z. ((front ++ codes ".") ++ fraction) ++ z) (sym none))
    (parts_end (front ++ codes ".") fraction (parts_of_run 10 fraction (omega arith) is))
behind_point front fraction power (inl no_fraction) (inl none) =
    subst EndsNumber
    (sym (append-nil (front ++ codes ".")) ∙ ap (λ z. (front ++ codes ".") ++ z) (sym no_fraction)
    ∙ sym (append-nil ((front ++ codes ".") ++ fraction))
    ∙ ap (λ z. ((front ++ codes ".") ++ fraction) ++ z) (sym none))
    (point_ends front)

pub number_ends : (xs : List ℕ) (kind : Kind) → IsNumber xs kind → EndsNumber xs
number_ends xs kind (prefixed letter base digits found is here kind_is) =
    subst EndsNumber (sym here)
    (parts_end (digit_zero ∷ letter ∷ []) digits
    (parts_of_run base.radix digits (base_is_small letter base found) is))
number_ends xs kind (prefixed_big letter base digits found is here kind_is) =
    subst EndsNumber (sym here) (ends_with (digit_zero ∷ letter ∷ digits) 110 letters_are_parts.1)
number_ends xs kind (decimal is kind_is) = parts_end [] xs (parts_of_integer xs is)
number_ends xs kind (decimal_big digits is here kind_is) =
    subst EndsNumber (sym here) (ends_with digits 110 letters_are_parts.1)
number_ends xs kind (with_point digits fraction power before is_fraction is_power here kind_is) =
    subst EndsNumber (sym here) (behind_point digits fraction power is_fraction is_power)
number_ends xs kind (with_exponent digits power before is here) =
    subst EndsNumber (sym here) (exponent_ends digits power kind is)
number_ends xs kind (point_first fraction power is_fraction is_power here kind_is) =
    subst EndsNumber (sym here) (behind_point [] fraction power (inr is_fraction) is_power)
number_ends xs kind (legacy_octal (legacy_octal_digits digits some all here) kind_is) =
    subst EndsNumber (sym here) (legacy_ends 8 digits (omega arith) all)
number_ends xs kind (legacy_decimal (legacy_decimal_digits digits all some here) kind_is) =
    subst EndsNumber (sym here) (legacy_ends 10 digits (omega arith) all)
