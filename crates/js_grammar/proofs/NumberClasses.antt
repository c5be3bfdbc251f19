-- Which characters of a number belong to which class.
use Rattle.std.proofs.Common.{◌≡◌, ℕ, ◌<◌, ◌≤◌, Bool, true, false, List, [], ◌∷◌, refl, ◌∙◌, ap, arith, ◌⊎◌, inl, inr}
use Rattle.std.proofs.Common.{◌==◌, ◌||◌, ◌&&◌, not, zero, suc}
use Rattle.std.proofs.lemmas.Bool.{eqb-true}
use Rattle.std.proofs.lemmas.Bool.Decides.{nat_tests}
use Rattle.unicode_ident.proofs.Computing.{unicode_ident}
use Rattle.js_text.specs.Characters.{begins, is_identifier_start}
use Rattle.js_text.specs.Ascii.{full_stop, low_line}
use Rattle.js_grammar.specs.Number.{latin_small_letter_n, is_exponent_indicator, may_not_follow_number}
use Rattle.js_kind.specs.Digits.{is_digit_of}
use Rattle.js_grammar.proofs.NumberItems.{Stops, true_or_false}
use Rattle.js_grammar.proofs.Tests.{and_true}

-- all numbers below a bound pass
abbrev pub all_below : (ℕ → Bool) → ℕ → Bool
all_below p zero = true
all_below p (suc n) = p n && all_below p n

pub below : (p : ℕ → Bool) (n c : ℕ) → all_below p n ≡ true → c < n → p c ≡ true
below p zero c e h = absurd (omega arith)
below p (suc n) c e h =
    let both = and_true (p n) (all_below p n) e in
    elim (true_or_false (c == n)) [
      | inl same ↦ ap p (eqb-true c n same) ∙ both.0
      | inr other ↦ below p n c both.1 (less c n h other)
    ]
  where
    less : (c n : ℕ) → c < suc n → (c == n) ≡ false → c < n
    less c n h other = grind (arith, nat_tests)

implies : (a b : Bool) → (not a || b) ≡ true → a ≡ true → b ≡ true
implies true b e h = e
implies false b e h = absurd (cc)

pub contraposed : (a b : Bool) → (a ≡ true → b ≡ true) → b ≡ false → a ≡ false
contraposed true b h e = let is : b ≡ true = h refl in absurd (cc)
contraposed false b h e = refl

-- digits are digits of a greater radix too, and ASCII characters
pub digit_more : (radix greater c : ℕ) → radix ≤ greater → is_digit_of radix c ≡ true → is_digit_of greater c ≡ true
unfolding is_digit_of
digit_more radix greater c h e = grind (arith, nat_tests)

pub digit_is_ascii : (c : ℕ) → is_digit_of 16 c ≡ true → c < 128
unfolding is_digit_of
digit_is_ascii c e = grind (arith, nat_tests)

digit_goes_on : all_below (λ c. not (is_digit_of 16 c) || may_not_follow_number c) 128 ≡ true
unfolding is_digit_of may_not_follow_number is_identifier_start unicode_ident
digit_goes_on = refl

-- no digit follows a number
pub digit_may_not_follow : (radix c : ℕ) → radix ≤ 16 → is_digit_of radix c ≡ true → may_not_follow_number c ≡ true
digit_may_not_follow radix c h e =
    let digit = digit_more radix 16 c h e in
    implies (is_digit_of 16 c) (may_not_follow_number c)
    (below (λ c. not (is_digit_of 16 c) || may_not_follow_number c) 128 c digit_goes_on (digit_is_ascii c digit))
    digit

marks_go_on : (may_not_follow_number 95 ≡ true) × (may_not_follow_number 110 ≡ true)
    × (may_not_follow_number 101 ≡ true) × (may_not_follow_number 69 ≡ true)
unfolding is_digit_of may_not_follow_number is_identifier_start unicode_ident
marks_go_on = (refl, refl, refl, refl)

-- what a character of a class is followed by where that class may not follow
begins_no : (p q : ℕ → Bool) (ys : List ℕ) → ((c : ℕ) → p c ≡ true → q c ≡ true) → begins q ys ≡ false
    → begins p ys ≡ false
begins_no p q [] h e = refl
begins_no p q (c ∷ cs) h e = contraposed (p c) (q c) (h c) e

is_mark : (mark c : ℕ) → may_not_follow_number mark ≡ true → (c == mark) ≡ true → may_not_follow_number c ≡ true
is_mark mark c h e = ap may_not_follow_number (eqb-true c mark e) ∙ h

pub or_true : (a b : Bool) → (a || b) ≡ true → (a ≡ true) ⊎ (b ≡ true)
or_true true b e = inl refl
or_true false b e = inr e

pub is_exponent : (c : ℕ) → is_exponent_indicator c ≡ true → (c ≡ 101) ⊎ (c ≡ 69)
unfolding is_exponent_indicator
is_exponent c e =
    elim (or_true (c == 101) (c == 69) e)
    [ inl small ↦ inl (eqb-true c 101 small) | inr large ↦ inr (eqb-true c 69 large) ]

-- What may follow a number goes on with none of its items.
pub record EndsNumber (ys : List ℕ) : Type 0 where
  pub run : (radix : ℕ) → radix ≤ 16 → Stops radix ys
  pub suffix : begins (λ c. c == latin_small_letter_n) ys ≡ false
  pub exponent : begins is_exponent_indicator ys ≡ false

pub ends_number : (ys : List ℕ) → begins may_not_follow_number ys ≡ false → EndsNumber ys
ends_number ys e = record {
  run = λ radix h. record {
    digit = begins_no (is_digit_of radix) may_not_follow_number ys (λ c d. digit_may_not_follow radix c h d) e;
    separator =
        begins_no (λ c. c == low_line) may_not_follow_number ys (λ c same. is_mark low_line c marks_go_on.0 same) e;
  };
  suffix =
      begins_no (λ c. c == latin_small_letter_n) may_not_follow_number ys
      (λ c same. is_mark latin_small_letter_n c marks_go_on.1 same) e;
  exponent =
      begins_no is_exponent_indicator may_not_follow_number ys
      (λ c mark. elim
      (is_exponent c mark) [
        | inl small ↦ ap may_not_follow_number small ∙ marks_go_on.2
        | inr large ↦ ap may_not_follow_number large
            ∙ marks_go_on.3
      ])
      e;
}

-- a character of an item begins no other item: a point, a suffix and the mark of an exponent end a run
marks_are_no_digits : (radix : ℕ) → radix ≤ 16 → (is_digit_of radix 46 ≡ false) × (is_digit_of radix 110 ≡ false)
unfolding is_digit_of
marks_are_no_digits radix h = (grind (arith, nat_tests), grind (arith, nat_tests))

pub point_stops : (ys : List ℕ) → Stops 10 (full_stop ∷ ys)
point_stops ys = record { digit = (marks_are_no_digits 10 (omega arith)).0; separator = refl }

pub suffix_stops : (radix : ℕ) (ys : List ℕ) → radix ≤ 16 → Stops radix (latin_small_letter_n ∷ ys)
suffix_stops radix ys h = record { digit = (marks_are_no_digits radix h).1; separator = refl }

exponents_are_no_digits : (is_digit_of 10 101 ≡ false) × (is_digit_of 10 69 ≡ false)
unfolding is_digit_of
exponents_are_no_digits = (refl, refl)

pub exponent_stops : (c : ℕ) (ys : List ℕ) → is_exponent_indicator c ≡ true → Stops 10 (c ∷ ys)
exponent_stops c ys e = record {
  digit =
      elim (is_exponent c e) [
        | inl small ↦ ap (is_digit_of 10) small ∙ exponents_are_no_digits.0
        | inr large ↦ ap (is_digit_of 10) large
            ∙ exponents_are_no_digits.1
      ];
  separator =
      elim (is_exponent c e) [ inl small ↦ ap (λ d. d == low_line) small | inr large ↦ ap (λ d. d == low_line) large ];
}

-- the mark of an exponent is no point and no suffix
pub exponent_is_no_mark : (c : ℕ) → is_exponent_indicator c ≡ true
    → ((c == full_stop) ≡ false) × ((c == latin_small_letter_n) ≡ false)
exponent_is_no_mark c e =
    elim (is_exponent c e) [
      | inl small ↦ (ap (λ d. d == full_stop) small, ap (λ d. d == latin_small_letter_n) small)
      | inr large ↦ (ap (λ d. d == full_stop) large, ap (λ d. d == latin_small_letter_n) large)
    ]
