-- Whole items that end well are a number.
use Rattle.std.proofs.Common.{◌≡◌, ℕ, Bool, true, false, List, [], ◌∷◌, ◌++◌, drop, refl, sym, ◌∙◌, ap, subst, inl, inr}
use Rattle.std.proofs.Common.{◌==◌, ◌||◌, Option, Some, None, append_assoc}
use Rattle.std.proofs.lemmas.Bool.{eqb-true}
use Rattle.std.proofs.lemmas.List.{append-nil}
use Rattle.std.specs.Prelude.{codes}
use Rattle.js_text.specs.Characters.{begins, before_first, from_first}
use Rattle.js_text.specs.Ascii.{full_stop}
use Rattle.js_grammar.specs.Number.{whole, run, integer, IsExponent, IsBeforePoint, IsNumber, Base, base_of, Sign}
use Rattle.js_grammar.specs.Number.{sign_kind, are_digits, may_not_follow_number, excluded_after}
use Rattle.js_kind.specs.Digits.{is_digit_of}
use Rattle.js_grammar.specs.Number.{begins_number, latin_small_letter_n, digit_zero}
use Rattle.js_grammar.specs.Number.IsExponent.{exponent}
use Rattle.js_grammar.specs.Number.IsLegacyOctal.{legacy as legacy_octal_digits}
use Rattle.js_grammar.specs.Number.IsLegacyDecimal.{legacy as legacy_decimal_digits}
use Rattle.js_grammar.specs.Number.IsNumber.{prefixed, prefixed_big, decimal, decimal_big, with_point, with_exponent}
use Rattle.js_grammar.specs.Number.IsNumber.{point_first, legacy_octal, legacy_decimal}
use Rattle.js_grammar.specs.Number.Sign.{no_sign, plus, minus}
use Rattle.js_grammar.specs.NumberReads.{items_text, no_items, items-cons, point_items, behind_digits, suffix_or}
use Rattle.js_grammar.specs.NumberReads.{decimal_items}
use Rattle.js_grammar.specs.NumberReads.{is_no_digit, unseparated_digits, legacy_items, behind_prefix, zero_items}
use Rattle.js_grammar.specs.NumberReads.{base_at}
use Rattle.js_grammar.specs.NumberReads.{number_items}
use Rattle.js_grammar.proofs.NumberCuts.{lacks_some}
use Rattle.js_grammar.proofs.NumberItems.{true_or_false, run_text, run_is, integer_text, integer_is}
use Rattle.js_grammar.proofs.NumberSteps.{suffix_there, suffix_missing, legacy_octal_items, legacy_decimal_items}
use Rattle.js_grammar.proofs.NumberSteps.{behind_prefix_broken, behind_prefix_whole, zero_base, zero_legacy}
use Rattle.js_grammar.proofs.NumberSteps.{zero_decimal, number_point, number_zero, number_decimal}
use Rattle.js_grammar.proofs.NumberShapes.{or_false, point_text}
use Rattle.js_grammar.proofs.Tests.{and_true}
use Rattle.js_grammar.proofs.NumberSound.{Sound, Pointed, Behind, behind_sound, point_sound, first_is}
use Rattle.js_grammar.proofs.NumberSound.Pointed.{pointed}
use Rattle.js_grammar.proofs.NumberSound.Behind.{nothing, a_point, a_power}
use Rattle.js_kind.specs.declared.kind.Kind.{Kind}
use Rattle.js_kind.specs.declared.kind.Kind.TheVariants.{Decimal, DecimalBigInt}

-- the characters are a number of the kind, and what is left may follow it, unless it may follow none
pub record Numbers (xs : List ℕ) (kind : Kind) (rest : List ℕ) : Type 0 where
  pub number : IsNumber xs kind
  pub follows : begins may_not_follow_number rest ≡ false → excluded_after kind rest ≡ false

-- what follows a number of another kind than `Decimal`
abbrev Follows : Kind → List ℕ → Type 0
Follows kind rest = begins may_not_follow_number rest ≡ false → excluded_after kind rest ≡ false

follows_power : (xs : List ℕ) (kind : Kind) (rest : List ℕ) → IsExponent xs kind → Follows kind rest
follows_power xs kind rest (exponent mark sign digits is run here kind_is) = rw kind_is (by_sign sign)
  where
    by_sign : (sign : Sign) → Follows (sign_kind sign) rest
    by_sign no_sign = λ e. e
    by_sign plus = λ e. e
    by_sign minus = λ e. e

decimal_or_legacy : (xs : List ℕ) → IsBeforePoint xs → IsNumber xs Decimal
decimal_or_legacy xs (inl is) = decimal is refl
decimal_or_legacy xs (inr is) = legacy_decimal is refl

behind_numbers : (ds xs : List ℕ) (kind : Kind) (rest : List ℕ) → IsBeforePoint ds → Behind xs kind rest
    → Numbers (ds ++ xs) kind rest
behind_numbers ds xs kind rest d (nothing none kind_is no_point) = record {
  number = rw (kind_is, none, append-nil ds) (decimal_or_legacy ds d);
  follows = λ e. rw (kind_is, e, no_point) refl;
}
behind_numbers ds xs kind rest d (a_point fs es here f e kind_is) = record {
  number = with_point ds fs es d f e (ap (λ t. ds ++ t) here ∙ sym (point_text ds fs es)) kind_is;
  follows = λ e. rw kind_is e;
}
behind_numbers ds xs kind rest d (a_power is) = record {
  number = with_exponent ds xs d is refl;
  follows = follows_power xs kind rest is;
}

suffix_text : (xs text : List ℕ) → begins (λ c. c == latin_small_letter_n) text ≡ true
    → xs ++ text ≡ (xs ++ codes "n") ++ drop 1 text
suffix_text xs text first =
    ap (λ t. xs ++ t) (first_is latin_small_letter_n text first) ∙ sym (append_assoc xs (codes "n") (drop 1 text))

-- a decimal number
decimal_sound : (text : List ℕ) → lacks_some (decimal_items text).items ≡ false
    → Sound Numbers text (decimal_items text)
unfolding decimal_items
decimal_sound text whole =
    let digits = integer text in
    let more = suffix_or DecimalBigInt (behind_digits digits.rest) digits.rest in
    let both = or_false digits.lacks_digit (lacks_some more.items) whole in
    let is = integer_is text both.0 in
    elim (true_or_false (begins (λ c. c == latin_small_letter_n) digits.rest)) [
      | inl first ↦ (
          let found = suffix_there DecimalBigInt (behind_digits digits.rest) digits.rest first in
          rw found (record {
            here = integer_text text ∙ suffix_text digits.text digits.rest first;
            is = record { number = decimal_big digits.text is refl refl; follows = λ e. e };
          }))
      | inr none ↦ (
          let found = suffix_missing DecimalBigInt (behind_digits digits.rest) digits.rest none in
          let end = behind_sound digits.rest (rw found at both.1) in
          let behind = behind_digits digits.rest in
          rw found (record {
            here =
                integer_text text ∙ ap (λ t. digits.text ++ t) end.here
                ∙ sym (append_assoc digits.text (items_text behind.items) behind.rest);
            is = behind_numbers digits.text (items_text behind.items) behind.kind behind.rest (inl is) end.is;
          }))
    ]

-- digits with no `_`
pub plain_text : (text : List ℕ) → text ≡ before_first is_no_digit text ++ from_first is_no_digit text
plain_text [] = refl
plain_text (c ∷ cs) =
    elim (true_or_false (is_digit_of 10 c)) [
      | inl digit ↦ rw digit (ap (λ t. c ∷ t) (plain_text cs))
      | inr none ↦ rw none refl
    ]

unseparated_are_digits : (text : List ℕ) → are_digits 10 (before_first is_no_digit text) ≡ true
unseparated_are_digits [] = refl
unseparated_are_digits (c ∷ cs) =
    elim (true_or_false (is_digit_of 10 c)) [
      | inl digit ↦ rw digit (rw digit (unseparated_are_digits cs))
      | inr none ↦ rw none refl
    ]

plain_begins : (text : List ℕ) → begins (is_digit_of 10) text ≡ true
    → begins (is_digit_of 10) (before_first is_no_digit text) ≡ true
plain_begins [] e = e
plain_begins (c ∷ cs) e = rw e e

zero_is_octal : (is_digit_of 10 48 ≡ true) × (is_digit_of 8 48 ≡ true)
unfolding is_digit_of
zero_is_octal = (refl, refl)

octal_first : (ds : List ℕ) → begins (is_digit_of 10) ds ≡ true → are_digits 8 ds ≡ true
    → begins (is_digit_of 8) ds ≡ true
octal_first [] e o = absurd (cc)
octal_first (d ∷ ds) e o = (and_true (is_digit_of 8 d) (are_digits 8 ds) o).0

-- `0` and digits
legacy_zero : (cs : List ℕ)
    → unseparated_digits (digit_zero ∷ cs) ≡ whole (digit_zero ∷ before_first is_no_digit cs)
    (from_first is_no_digit cs)
unfolding unseparated_digits
legacy_zero cs = rw zero_is_octal.0 refl

octal_zero : (ds : List ℕ) (b : Bool) → are_digits 8 (digit_zero ∷ ds) ≡ b → are_digits 8 ds ≡ b
octal_zero ds b e = rw zero_is_octal.1 at e

legacy_sound : (cs : List ℕ) → begins (is_digit_of 10) cs ≡ true
    → lacks_some (legacy_items (digit_zero ∷ cs)).items ≡ false
    → Sound Numbers (digit_zero ∷ cs) (legacy_items (digit_zero ∷ cs))
legacy_sound cs first good =
    let text = digit_zero ∷ cs in
    let ds = before_first is_no_digit cs in
    let left = from_first is_no_digit cs in
    let found = legacy_zero cs in
    elim (true_or_false (are_digits 8 (unseparated_digits text).text)) [
      | inl octal ↦ (
          let digits = octal_zero ds true (rw found at octal) in
          rw (legacy_octal_items text octal, found) (record {
            here = ap (λ t. digit_zero ∷ t) (plain_text cs) ∙ ap (λ t. t ++ left) (sym (append-nil (digit_zero ∷ ds)));
            is = record {
              number =
                  legacy_octal
                  (legacy_octal_digits ds (octal_first ds (plain_begins cs first) digits) digits
                  (append-nil (digit_zero ∷ ds))) refl;
              follows = λ e. e;
            };
          }))
      | inr some ↦ (
          let decimal = octal_zero ds false (rw found at some) in
          let behind = behind_digits left in
          let end = behind_sound left (rw (legacy_decimal_items text some, found) at good) in
          rw (legacy_decimal_items text some, found) (record {
            here = ap (λ t. digit_zero ∷ t) (plain_text cs) ∙ ap (λ t. (digit_zero ∷ ds) ++ t) end.here
                ∙ sym (append_assoc (digit_zero ∷ ds) (items_text behind.items) behind.rest);
            is = behind_numbers (digit_zero ∷ ds) (items_text behind.items) behind.kind behind.rest
                (inr (legacy_decimal_digits ds (unseparated_are_digits cs) decimal refl)) end.is;
          }))
    ]

-- the kinds of a base
some_follows : (a b : Base) (rest : List ℕ) → Some a ≡ Some b → Follows a.kind rest × Follows a.big_kind rest
    → Follows b.kind rest × Follows b.big_kind rest
some_follows a b rest e h = let same : a ≡ b = cc in
    subst (λ (base : Base). Follows base.kind rest × Follows base.big_kind rest) same h

base_follows : (c : ℕ) (base : Base) (rest : List ℕ) → base_of c ≡ Some base
    → Follows base.kind rest × Follows base.big_kind rest
base_follows c base rest e =
    elim (true_or_false ((c == 98) || (c == 66))) [
      | inl is ↦ some_follows _ base rest (rw is at e) (λ f. f, λ f. f)
      | inr other ↦ elim (true_or_false ((c == 111) || (c == 79))) [
        | inl is ↦ some_follows _ base rest (rw (other, is) at e) (λ f. f, λ f. f)
        | inr another ↦ elim (true_or_false ((c == 120) || (c == 88))) [
          | inl is ↦ some_follows _ base rest (rw (other, another, is) at e) (λ f. f, λ f. f)
          | inr none ↦ (let h : None ≡ Some base = rw (other, another, none) at e in absurd (cc))
        ]
      ]
    ]

-- a number with a prefix
prefixed_sound : (c : ℕ) (cs : List ℕ) (base : Base) → base_of c ≡ Some base
    → lacks_some (behind_prefix base (run base.radix cs)).items ≡ false
    → Sound Numbers (digit_zero ∷ c ∷ cs)
    (items-cons (whole (digit_zero ∷ c ∷ []) cs) (behind_prefix base (run base.radix cs)))
prefixed_sound c cs base letter good =
    let digits = run base.radix cs in
    let without = no_items base.kind digits.rest in
    let follows = base_follows c base digits.rest letter in
    elim (true_or_false digits.lacks_digit) [
      | inl broken ↦ (
          let h = or_false digits.lacks_digit false (rw (behind_prefix_broken base digits broken) at good) in
          absurd (cc))
      | inr complete ↦ (
          let found = behind_prefix_whole base digits complete in
          let is = run_is base.radix cs complete in
          elim (true_or_false (begins (λ c. c == latin_small_letter_n) digits.rest)) [
            | inl first ↦ rw (found, suffix_there base.big_kind without digits.rest first) (record {
              here = ap (λ t. digit_zero ∷ c ∷ t) (run_text base.radix cs ∙ suffix_text digits.text digits.rest first);
              is = record {
                number = prefixed_big c base digits.text letter is refl refl;
                follows = (base_follows c base (drop 1 digits.rest) letter).1;
              };
            })
            | inr none ↦ rw (found, suffix_missing base.big_kind without digits.rest none) (record {
              here =
                  ap (λ t. digit_zero ∷ c ∷ t)
                  (run_text base.radix cs ∙ ap (λ t. t ++ digits.rest) (sym (append-nil digits.text)));
              is = record {
                number =
                    prefixed c base digits.text letter is (ap (λ t. digit_zero ∷ c ∷ t) (append-nil digits.text)) refl;
                follows = follows.0;
              };
            })
          ])
    ]

-- a number that begins with `0`
zero_sound : (base : Option Base) (cs : List ℕ) → base_at cs ≡ base
    → lacks_some (zero_items base (digit_zero ∷ cs)).items ≡ false
    → Sound Numbers (digit_zero ∷ cs) (zero_items base (digit_zero ∷ cs))
zero_sound (Some base) [] e good = absurd (cc)
zero_sound (Some base) (c ∷ cs) e good =
    let found = zero_base base (digit_zero ∷ c ∷ cs) in
    rw found (prefixed_sound c cs base e (rw found at good))
zero_sound None cs e good =
    elim (true_or_false (begins (is_digit_of 10) cs)) [
      | inl first ↦ (
          let found = zero_legacy (digit_zero ∷ cs) first in
          rw found (legacy_sound cs first (rw found at good)))
      | inr none ↦ (
          let found = zero_decimal (digit_zero ∷ cs) none in
          rw found (decimal_sound (digit_zero ∷ cs) (rw found at good)))
    ]

pointed_numbers : (text xs : List ℕ) (kind : Kind) (rest : List ℕ) → begins (is_digit_of 10) text ≡ true
    → Pointed text xs kind rest → Numbers xs kind rest
pointed_numbers text xs kind rest digit (pointed fs es here f e first kind_is) = record {
  number = point_first fs es (first digit) e (here ∙ sym (point_text [] fs es)) kind_is;
  follows = λ e. rw kind_is e;
}

begins_point : (c : ℕ) (cs : List ℕ) → begins_number (c ∷ cs) ≡ true → (c == full_stop) ≡ true
    → begins (is_digit_of 10) cs ≡ true
begins_point c cs e is = rw is at e

-- Whole items that are cut from a text are its beginning, and a number.
pub number_sound : (text : List ℕ) → begins_number text ≡ true → lacks_some (number_items text).items ≡ false
    → Sound Numbers text (number_items text)
number_sound [] begun good = absurd (cc)
number_sound (c ∷ cs) begun good =
    elim (true_or_false (c == full_stop)) [
      | inl is ↦ (
          let text = c ∷ cs in
          let number = point_items text in
          let found = number_point text is in
          let end = point_sound text is (rw found at good) in
          rw found (record {
            here = end.here;
            is = pointed_numbers cs (items_text number.items) number.kind number.rest
                (begins_point c cs begun is) end.is;
          }))
      | inr other ↦ elim (true_or_false (c == digit_zero)) [
        | inl is ↦ by_zero c cs (eqb-true c digit_zero is) good
        | inr none ↦ (
            let found = number_decimal (c ∷ cs) other none in
            rw found (decimal_sound (c ∷ cs) (rw found at good)))
      ]
    ]
  where
    by_zero : (c : ℕ) (cs : List ℕ) → c ≡ digit_zero → lacks_some (number_items (c ∷ cs)).items ≡ false
        → Sound Numbers (c ∷ cs) (number_items (c ∷ cs))
    by_zero c cs same good =
        let text = digit_zero ∷ cs in
        let found : number_items text ≡ zero_items (base_at cs) text = number_zero text refl refl in
        let good : lacks_some (number_items text).items ≡ false =
        subst (λ d. lacks_some (number_items (d ∷ cs)).items ≡ false) same good in
        subst (λ d. Sound Numbers (d ∷ cs) (number_items (d ∷ cs))) (sym same)
        (rw found (zero_sound (base_at cs) cs refl (rw found at good)))
