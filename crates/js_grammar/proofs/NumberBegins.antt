-- What a number begins with.
use Rattle.std.proofs.Common.{◌≡◌, ℕ, true, false, List, [], ◌∷◌, ◌++◌, refl, ◌∙◌, ap, inl, inr, ◌==◌}
use Rattle.std.proofs.Common.{append_assoc}
use Rattle.std.proofs.lemmas.Bool.{eqb-true}
use Rattle.std.specs.Prelude.{codes}
use Rattle.js_text.specs.Ascii.{full_stop}
use Rattle.js_text.specs.Characters.{begins}
use Rattle.js_grammar.specs.Number.{IsBeforePoint, IsNumber}
use Rattle.js_grammar.specs.Number.{begins_number}
use Rattle.js_kind.specs.Digits.{is_digit_of}
use Rattle.js_grammar.specs.Number.IsLegacyOctal.{legacy as legacy_octal_digits}
use Rattle.js_grammar.specs.Number.IsLegacyDecimal.{legacy as legacy_decimal_digits}
use Rattle.js_grammar.specs.Number.IsNumber.{prefixed, prefixed_big, decimal, decimal_big, with_point, with_exponent}
use Rattle.js_grammar.specs.Number.IsNumber.{point_first, legacy_octal, legacy_decimal}
use Rattle.js_grammar.proofs.NumberItems.{true_or_false, begins_more, run_begins, integer_begins_digit}
use Rattle.js_grammar.proofs.NumberShapes.{point_text_before}
use Rattle.js_kind.specs.declared.kind.Kind.{Kind}

zero_is_digit : is_digit_of 10 48 ≡ true
unfolding is_digit_of
zero_is_digit = refl

point_is_no_digit : is_digit_of 10 46 ≡ false
unfolding is_digit_of
point_is_no_digit = refl

-- a digit begins a number
pub digit_begins_number : (text : List ℕ) → begins (is_digit_of 10) text ≡ true → begins_number text ≡ true
digit_begins_number [] e = e
digit_begins_number (c ∷ cs) e =
    elim (true_or_false (c == full_stop)) [
      | inl is ↦
          (let none : is_digit_of 10 c ≡ false = ap (is_digit_of 10) (eqb-true c full_stop is) ∙ point_is_no_digit in
          absurd (cc))
      | inr other ↦ rw other e
    ]

before_point_begins : (xs : List ℕ) → IsBeforePoint xs → begins (is_digit_of 10) xs ≡ true
before_point_begins xs (inl is) = integer_begins_digit xs is
before_point_begins xs (inr (legacy_decimal_digits ds d o here)) = rw here zero_is_digit

-- A number begins a text as one.
pub number_begins : (xs ys : List ℕ) (kind : Kind) → IsNumber xs kind → begins_number (xs ++ ys) ≡ true
number_begins xs ys kind (prefixed c base ds letter is here kind_is) = rw here zero_is_digit
number_begins xs ys kind (prefixed_big c base ds letter is here kind_is) = rw here zero_is_digit
number_begins xs ys kind (decimal is kind_is) =
    digit_begins_number (xs ++ ys) (begins_more (is_digit_of 10) xs ys (integer_begins_digit xs is))
number_begins xs ys kind (decimal_big ds is here kind_is) =
    let text : xs ++ ys ≡ ds ++ (codes "n" ++ ys) = ap (λ t. t ++ ys) here ∙ append_assoc ds (codes "n") ys in
    rw text
    (digit_begins_number (ds ++ (codes "n" ++ ys))
    (begins_more (is_digit_of 10) ds (codes "n" ++ ys) (integer_begins_digit ds is)))
number_begins xs ys kind (with_point ds fs es d f p here kind_is) =
    let rest = full_stop ∷ (fs ++ (es ++ ys)) in
    let text : xs ++ ys ≡ ds ++ rest = ap (λ t. t ++ ys) here ∙ point_text_before ds fs es ys in
    rw text (digit_begins_number (ds ++ rest) (begins_more (is_digit_of 10) ds rest (before_point_begins ds d)))
number_begins xs ys kind (with_exponent ds es d p here) =
    let text : xs ++ ys ≡ ds ++ (es ++ ys) = ap (λ t. t ++ ys) here ∙ append_assoc ds es ys in
    rw text
    (digit_begins_number (ds ++ (es ++ ys)) (begins_more (is_digit_of 10) ds (es ++ ys) (before_point_begins ds d)))
number_begins xs ys kind (point_first fs es f p here kind_is) =
    let text : xs ++ ys ≡ full_stop ∷ (fs ++ (es ++ ys)) = ap (λ t. t ++ ys) here ∙ point_text_before [] fs es ys in
    rw text (begins_more (is_digit_of 10) fs (es ++ ys) (run_begins 10 fs f))
number_begins xs ys kind (legacy_octal (legacy_octal_digits ds first d here) kind_is) = rw here zero_is_digit
number_begins xs ys kind (legacy_decimal (legacy_decimal_digits ds d o here) kind_is) = rw here zero_is_digit
