-- What is cut from a text into whole items is a number.
use Rattle.std.proofs.Common.{◌≡◌, ℕ, true, false, List, [], ◌∷◌, ◌++◌, length, drop, refl, sym, ◌∙◌, ap, inl, inr}
use Rattle.std.proofs.Common.{◌==◌, append_assoc}
use Rattle.std.proofs.lemmas.Bool.{eqb-true}
use Rattle.std.proofs.lemmas.List.{append-nil}
use Rattle.js_text.specs.Characters.{begins}
use Rattle.js_text.specs.Ascii.{full_stop}
use Rattle.js_grammar.specs.Number.{whole, run, Is, IsOptional, IsExponent, IsFloatExponent, Sign, sign_text}
use Rattle.js_grammar.specs.Number.{is_exponent_indicator}
use Rattle.js_kind.specs.Digits.{is_digit_of}
use Rattle.js_grammar.specs.Number.IsExponent.{exponent}
use Rattle.js_grammar.specs.NumberReads.{items_text, Items, sign_of, exponent_items, exponent_or, fraction_items}
use Rattle.js_grammar.specs.NumberReads.{point_items}
use Rattle.js_grammar.specs.NumberReads.{behind_digits}
use Rattle.js_grammar.proofs.NumberCuts.{lacks_some}
use Rattle.js_grammar.proofs.NumberItems.{true_or_false, run_text, run_is}
use Rattle.js_grammar.proofs.NumberSteps.{exponent_there, exponent_missing, fraction_there, fraction_missing}
use Rattle.js_grammar.proofs.NumberSteps.{behind_digits_point, behind_digits_other}
use Rattle.js_grammar.proofs.NumberShapes.{or_false}
use Rattle.js_kind.specs.declared.kind.Kind.{Kind}
use Rattle.js_kind.specs.declared.kind.Kind.TheVariants.{Decimal, Float}

-- What is known of the items that a text is cut into: where they are whole, this holds of their characters, their kind
-- and what is left.
pub record Sound (P : List ℕ → Kind → List ℕ → Type 0) (text : List ℕ) (number : Items) : Type 0 where
  pub here : text ≡ items_text number.items ++ number.rest
  pub is : P (items_text number.items) number.kind number.rest

-- the sign that stands here
pub sign_here : (text : List ℕ) → text ≡ sign_text (sign_of text) ++ drop (length (sign_text (sign_of text))) text
sign_here [] = refl
sign_here (c ∷ cs) =
    elim (true_or_false (c == 45)) [
      | inl is ↦ rw is (ap (λ d. d ∷ cs) (eqb-true c 45 is))
      | inr other ↦ elim (true_or_false (c == 43)) [
        | inl is ↦ rw (other, is) (ap (λ d. d ∷ cs) (eqb-true c 43 is))
        | inr none ↦ rw (other, none) refl
      ]
    ]

-- An exponent, or none.
pub data Exponent (without : Kind) (xs : List ℕ) (kind : Kind) (rest : List ℕ) : Type 0 where
  no_exponent : xs ≡ [] → kind ≡ without → Exponent without xs kind rest
  some_exponent : IsExponent xs kind → Exponent without xs kind rest

exponent_items_sound : (without : Kind) (mark : ℕ) (sign : Sign) (text : List ℕ) → is_exponent_indicator mark ≡ true
    → text ≡ sign_text sign ++ drop (length (sign_text sign)) text
    → lacks_some (exponent_items mark sign text).items ≡ false
    → Sound (Exponent without) (mark ∷ text) (exponent_items mark sign text)
unfolding exponent_items
exponent_items_sound without mark sign text is signed whole =
    let rest = drop (length (sign_text sign)) text in
    let digits = (or_false (run 10 rest).lacks_digit false whole).0 in
    record {
      here =
          ap (λ t. mark ∷ t)
          (signed ∙ ap (λ t. sign_text sign ++ t) (run_text 10 rest)
          ∙ same (sign_text sign) (run 10 rest).text (run 10 rest).rest);
      is = some_exponent
          (exponent mark sign (run 10 rest).text is (run_is 10 rest digits)
          (ap (λ t. mark ∷ (sign_text sign ++ t)) (append-nil (run 10 rest).text)) refl);
    }
  where
    same : (xs ys zs : List ℕ) → xs ++ (ys ++ zs) ≡ (xs ++ (ys ++ [])) ++ zs
    same xs ys zs = rw append-nil (sym (append_assoc xs ys zs))

exponent_sound : (without : Kind) (text : List ℕ) → lacks_some (exponent_or without text).items ≡ false
    → Sound (Exponent without) text (exponent_or without text)
exponent_sound without [] whole =
    rw (exponent_missing without [] refl) (record { here = refl; is = no_exponent refl refl })
exponent_sound without (c ∷ cs) whole =
    elim (true_or_false (is_exponent_indicator c)) [
      | inl is ↦ (
          let found = exponent_there without c cs is in
          rw found (exponent_items_sound without c (sign_of cs) cs is (sign_here cs) (rw found at whole)))
      | inr none ↦ rw (exponent_missing without (c ∷ cs) none) (record { here = refl; is = no_exponent refl refl })
    ]

optional_exponent : (xs : List ℕ) (kind : Kind) (rest : List ℕ) → Exponent Float xs kind rest
    → IsOptional IsFloatExponent xs
optional_exponent xs kind rest (no_exponent e k) = inl e
optional_exponent xs kind rest (some_exponent is) = inr (kind, is)

-- A fraction and an exponent, of which each may be missing; where a digit stands, it is in a fraction.
pub data Fraction (text xs : List ℕ) (kind : Kind) (rest : List ℕ) : Type 0 where
  fraction : (fs es : List ℕ) → xs ≡ fs ++ es → IsOptional (Is (run 10)) fs → IsOptional IsFloatExponent es
      → (begins (is_digit_of 10) text ≡ true → Is (run 10) fs) → Fraction text xs kind rest

fraction_sound : (text : List ℕ) → lacks_some (fraction_items text).items ≡ false
    → Sound (Fraction text) text (fraction_items text)
fraction_sound text whole =
    elim (true_or_false (begins (is_digit_of 10) text)) [
      | inl digit ↦ (
          let found = fraction_there text digit in
          let digits = run 10 text in
          let more = exponent_or Float digits.rest in
          let both = or_false digits.lacks_digit (lacks_some more.items) (rw found at whole) in
          let end = exponent_sound Float digits.rest both.1 in
          let is = run_is 10 text both.0 in
          rw found (record {
            here =
                run_text 10 text ∙ ap (λ t. digits.text ++ t) end.here
                ∙ sym (append_assoc digits.text (items_text more.items) more.rest);
            is = fraction digits.text (items_text more.items) refl (inr is)
                (optional_exponent (items_text more.items) more.kind more.rest end.is) (λ _. is);
          }))
      | inr none ↦ (
          let found = fraction_missing text none in
          let more = exponent_or Float text in
          let end = exponent_sound Float text (rw found at whole) in
          rw found (record {
            here = end.here;
            is = fraction [] (items_text more.items) refl (inl refl)
                (optional_exponent (items_text more.items) more.kind more.rest end.is) (λ digit. absurd (cc));
          }))
    ]

pub first_is : (mark : ℕ) (text : List ℕ) → begins (λ c. c == mark) text ≡ true → text ≡ mark ∷ drop 1 text
first_is mark [] e = absurd (cc)
first_is mark (c ∷ cs) e = ap (λ d. d ∷ cs) (eqb-true c mark e)

-- A point, and a fraction and an exponent.
pub data Pointed (text xs : List ℕ) (kind : Kind) (rest : List ℕ) : Type 0 where
  pointed : (fs es : List ℕ) → xs ≡ full_stop ∷ (fs ++ es) → IsOptional (Is (run 10)) fs → IsOptional IsFloatExponent es
      → (begins (is_digit_of 10) text ≡ true → Is (run 10) fs) → kind ≡ Float → Pointed text xs kind rest

point_number : (text xs : List ℕ) (kind : Kind) (rest : List ℕ) → Fraction text xs kind rest
    → Pointed text (full_stop ∷ xs) Float rest
point_number text xs kind rest (fraction fs es here f e first) =
    pointed fs es (ap (λ t. full_stop ∷ t) here) f e first refl

pub point_sound : (text : List ℕ) → begins (λ c. c == full_stop) text ≡ true
    → lacks_some (point_items text).items ≡ false
    → Sound (Pointed (drop 1 text)) text (point_items text)
unfolding point_items
point_sound text first whole =
    let more = fraction_items (drop 1 text) in
    let end = fraction_sound (drop 1 text) whole in
    record {
      here = first_is full_stop text first ∙ ap (λ t. full_stop ∷ t) end.here;
      is = point_number (drop 1 text) (items_text more.items) more.kind more.rest end.is;
    }

-- What stands behind the digits that a point or an exponent may follow.
pub data Behind (xs : List ℕ) (kind : Kind) (rest : List ℕ) : Type 0 where
  nothing : xs ≡ [] → kind ≡ Decimal → begins (λ c. c == full_stop) rest ≡ false → Behind xs kind rest
  a_point : (fs es : List ℕ) → xs ≡ full_stop ∷ (fs ++ es) → IsOptional (Is (run 10)) fs
      → IsOptional IsFloatExponent es → kind ≡ Float
      → Behind xs kind rest
  a_power : IsExponent xs kind → Behind xs kind rest

behind_point : (text xs : List ℕ) (kind : Kind) (rest : List ℕ) → Pointed text xs kind rest → Behind xs kind rest
behind_point text xs kind rest (pointed fs es here f e first k) = a_point fs es here f e k

behind_other : (text xs : List ℕ) (kind : Kind) (rest : List ℕ) → text ≡ xs ++ rest
    → begins (λ c. c == full_stop) text ≡ false → Exponent Decimal xs kind rest
    → Behind xs kind rest
behind_other text xs kind rest here none (no_exponent e k) =
    nothing e k
    (let same : text ≡ rest = here ∙ ap (λ t. t ++ rest) e in ap (begins (λ c. c == full_stop)) (sym same) ∙ none)
behind_other text xs kind rest here none (some_exponent is) = a_power is

pub behind_sound : (text : List ℕ) → lacks_some (behind_digits text).items ≡ false
    → Sound Behind text (behind_digits text)
behind_sound text whole =
    elim (true_or_false (begins (λ c. c == full_stop) text)) [
      | inl first ↦ (
          let found = behind_digits_point text first in
          let number = point_items text in
          let end = point_sound text first (rw found at whole) in
          rw found
          (record {
            here = end.here;
            is =
                behind_point (drop 1 text) (items_text number.items) number.kind number.rest end.is;
          }))
      | inr none ↦ (
          let found = behind_digits_other text none in
          let number = exponent_or Decimal text in
          let end = exponent_sound Decimal text (rw found at whole) in
          rw found
          (record {
            here = end.here;
            is =
                behind_other text (items_text number.items) number.kind number.rest end.here none end.is;
          }))
    ]
