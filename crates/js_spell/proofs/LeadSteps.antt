-- How a number begins.
use Rattle.std.proofs.Common.{◌≡◌, ◌≢◌, ℕ, ◌<◌, ◌≤◌, true, false, ◌==◌, ltb, List, [], ◌∷◌, drop, refl, sym}
use Rattle.std.proofs.Common.{◌∙◌, ap, arith, inl, inr, None}
use Rattle.std.proofs.lemmas.Bool.{ltb-true, ltb-false, eqb-true, eq-eqb}
use Rattle.std.proofs.lemmas.Bool.Decides.{nat_tests}
use Rattle.js_text.specs.Ascii.{full_stop}
use Rattle.js_text.specs.Characters.{begins}
use Rattle.js_source.specs.Source.{HasFirstTwoBytes, HasAtMostOneByte}
use Rattle.js_grammar.specs.Number.{base_of, digit_zero}
use Rattle.js_kind.specs.Digits.{is_digit_of}
use Rattle.js_grammar.specs.NumberReads.{base_at, number_items, legacy_items, decimal_items, zero_items}
use Rattle.js_grammar.proofs.NumberCuts.{digit_names_no_base}
use Rattle.js_grammar.proofs.NumberItems.{true_or_false}
use Rattle.js_grammar.proofs.NumberSteps.{number_zero, number_decimal, zero_legacy, zero_decimal}
use Rattle.js_spell.specs.declared.numeric.Lead.{Lead}
use Rattle.js_spell.specs.declared.numeric.Lead.TheVariants.{Prefix as LedByPrefix, Legacy, Decimal as DecimalLead}
use Rattle.js_spell.specs.Numeric.{LeadsWith, Leads}
use Rattle.js_spell.proofs.NumericSteps.{wide_is_no_digit}

-- what is not `0` begins a decimal number
pub other_leads : (text : List ℕ) → begins (λ c. c == full_stop) text ≡ false
    → begins (λ c. c == digit_zero) text ≡ false
    → number_items text ≡ decimal_items text
other_leads text no_point none = number_decimal text no_point none

-- `0` with no base and no digit behind it too
pub zero_leads : (text : List ℕ) → begins (λ c. c == full_stop) text ≡ false → begins (λ c. c == digit_zero) text ≡ true
    → base_at (drop 1 text) ≡ None → begins (is_digit_of 10) (drop 1 text) ≡ false
    → number_items text ≡ decimal_items text
zero_leads text no_point zero none other =
    number_zero text no_point zero ∙ ap (λ b. zero_items b text) none ∙ zero_decimal text other

legacy_leads : (text : List ℕ) → begins (λ c. c == full_stop) text ≡ false → begins (λ c. c == digit_zero) text ≡ true
    → base_at (drop 1 text) ≡ None → begins (is_digit_of 10) (drop 1 text) ≡ true
    → number_items text ≡ legacy_items text
legacy_leads text no_point zero none digit =
    number_zero text no_point zero ∙ ap (λ b. zero_items b text) none ∙ zero_legacy text digit

-- a text of one character at most
pub short_leads : (text : List ℕ) → begins (λ c. c == full_stop) text ≡ false → HasAtMostOneByte text
    → number_items text ≡ decimal_items text
short_leads [] no_point h = other_leads [] no_point refl
short_leads (c ∷ cs) no_point h =
    elim (true_or_false (c == digit_zero)) [
      | inl zero ↦ zero_leads (c ∷ cs) no_point zero (ap base_at h.1) (ap (begins (is_digit_of 10)) h.1)
      | inr none ↦ other_leads (c ∷ cs) no_point none
    ]

-- a text whose first byte is not `0`
pub first_leads : (a b : ℕ) (text : List ℕ) → begins (λ c. c == full_stop) text ≡ false → a ≢ 48
    → HasFirstTwoBytes a b text
    → number_items text ≡ decimal_items text
first_leads a b [] no_point other h = absurd h
first_leads a b (c ∷ cs) no_point other h =
    elim (true_or_false (c == digit_zero)) [
      | inl zero ↦ (
          let is : c ≡ 48 = eqb-true c digit_zero zero in
          let same : c ≡ a = h.0.1 (omega arith) in
          absurd (other (sym same ∙ is)))
      | inr none ↦ other_leads (c ∷ cs) no_point none
    ]

-- the letters of bases are ASCII characters
wide_names_no_base : (c : ℕ) → 128 ≤ c → base_of c ≡ None
wide_names_no_base c h =
    rw (
      differs c 98 (omega arith),
      differs c 66 (omega arith),
      differs c 111 (omega arith),
      differs c 79 (omega arith),
      differs c 120 (omega arith),
      differs c 88 (omega arith),
    ) refl
  where
    differs : (c mark : ℕ) → mark < c → (c == mark) ≡ false
    differs c mark h = grind (arith, nat_tests)

first : (z b c : ℕ) (cs : List ℕ) → HasFirstTwoBytes 48 b (z ∷ c ∷ cs) → z ≡ digit_zero
first z b c cs h = h.0.0 (omega arith)

zero_first : (z b c : ℕ) (cs : List ℕ) → HasFirstTwoBytes 48 b (z ∷ c ∷ cs) → (z == digit_zero) ≡ true
zero_first z b c cs h = eq-eqb z digit_zero (first z b c cs h)

-- what a byte behind `0` tells of the character there
pub second_leads : (lead : Lead) (b : ℕ) (text : List ℕ) → begins (λ c. c == full_stop) text ≡ false
    → HasFirstTwoBytes 48 b text → LeadsWith lead b
    → Leads lead text
second_leads lead b [] no_point h with_b = absurd h
second_leads lead b (z ∷ []) no_point h with_b = absurd (h.1 (omega arith))
second_leads (LedByPrefix prefix) b (z ∷ c ∷ cs) no_point h with_b =
    elim (true_or_false (ltb b 128)) [
      | inl low ↦ (
          let same : c ≡ b = (h.1 (omega arith)).0 (ltb-true b 128 low) in
          record {
            letter = c;
            behind = cs;
            here = ap (λ d. d ∷ c ∷ cs) (first z b c cs h);
            base =
                ap base_of same ∙ with_b;
          })
      | inr wide ↦ (let none = wide_names_no_base b (ltb-false b 128 wide) in absurd (cc))
    ]
second_leads Legacy b (z ∷ c ∷ cs) no_point h with_b =
    elim (true_or_false (ltb b 128)) [
      | inl low ↦ (
          let same : c ≡ b = (h.1 (omega arith)).0 (ltb-true b 128 low) in
          let digit : is_digit_of 10 c ≡ true = ap (is_digit_of 10) same ∙ with_b in
          legacy_leads (z ∷ c ∷ cs) no_point (zero_first z b c cs h) (digit_names_no_base c digit) digit)
      | inr wide ↦ (let none = wide_is_no_digit 10 b (omega arith) (ltb-false b 128 wide) in absurd (cc))
    ]
second_leads DecimalLead b (z ∷ c ∷ cs) no_point h with_b =
    let zero = zero_first z b c cs h in
    elim (true_or_false (ltb b 128)) [
      | inl low ↦ (
          let same : c ≡ b = (h.1 (omega arith)).0 (ltb-true b 128 low) in
          zero_leads (z ∷ c ∷ cs) no_point zero (ap base_of same ∙ with_b.0) (ap (is_digit_of 10) same ∙ with_b.1))
      | inr wide ↦ elim (true_or_false (ltb c 128)) [
        | inl near ↦ (
            let same : c ≡ b = (h.1 (omega arith)).1 (ltb-true c 128 near) in
            let le : 128 ≤ b = ltb-false b 128 wide in
            let lt : c < 128 = ltb-true c 128 near in
            absurd (omega arith))
        | inr far ↦
            zero_leads (z ∷ c ∷ cs) no_point zero (wide_names_no_base c (ltb-false c 128 far))
            (wide_is_no_digit 10 c (omega arith) (ltb-false c 128 far))
      ]
    ]
