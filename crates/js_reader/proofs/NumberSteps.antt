-- Whether a number begins, where no punctuator does.
use Rattle.std.proofs.Common.{◌≡◌, ℕ, Bool, true, false, List, [], ◌∷◌, ◌==◌, ◌<◌, nat_le, refl, sym}
use Rattle.std.proofs.Common.{◌∙◌, ap, subst, arith, inl, inr}
use Rattle.std.specs.Char.{is_ascii_digit}
use Rattle.std.proofs.lemmas.Bool.{eqb-true, leb-true}
use Rattle.js_text.specs.Ascii.{full_stop}
use Rattle.js_text.specs.Characters.{begins}
use Rattle.js_text.specs.declared.source_type.SourceType.{SourceType}
use Rattle.js_kind.proofs.Digits.{digits_of_ten}
use Rattle.js_kind.specs.Digits.{is_digit_of}
use Rattle.js_kind.specs.declared.kind.Kind.TheVariants.{Dot}
use Rattle.js_source.specs.Source.{HasFirstByte}
use Rattle.js_grammar.specs.Number.{begins_number}
use Rattle.js_grammar.specs.Punctuators.{NoPunctuator, before_no_digit}
use Rattle.js_grammar.proofs.NumberItems.{true_or_false}
use Rattle.js_grammar.proofs.Printable.{spelled_there}
use Rattle.js_grammar.proofs.LongestPunctuators.{listed}
use Rattle.js_grammar.proofs.Tests.{and_true}

-- the digits of a radix of ten are those of ASCII
pub ascii_digits_begin : (cs : List ℕ) → begins is_ascii_digit cs ≡ begins (is_digit_of 10) cs
ascii_digits_begin [] = refl
ascii_digits_begin (d ∷ ds) = digits_of_ten d

-- a digit follows a `.` that is no punctuator
pub point_begins_number : (t : SourceType) (line_has_ended : Bool) (xs : List ℕ) (b : ℕ) → HasFirstByte b xs → b ≡ 46
    → NoPunctuator t line_has_ended xs → begins_number xs ≡ true
point_begins_number t line_has_ended [] b h e none = absurd h
point_begins_number t line_has_ended (c ∷ cs) b h e none = at c (h.0 (omega (arith, e)) ∙ e) none
  where
    digit : (d : Bool) → begins is_ascii_digit cs ≡ d → NoPunctuator t line_has_ended (46 ∷ cs) → d ≡ true
    digit true f none = refl
    digit false f none = absurd (spelled_there t line_has_ended (before_no_digit Dot) cs (listed refl) f none)

    at : (c : ℕ) → c ≡ 46 → NoPunctuator t line_has_ended (c ∷ cs) → begins_number (c ∷ cs) ≡ true
    at c same none =
        subst (λ x. begins_number (x ∷ cs) ≡ true) (sym same)
        (sym (ascii_digits_begin cs)
        ∙ digit (begins is_ascii_digit cs) refl (subst (λ x. NoPunctuator t line_has_ended (x ∷ cs)) same none))

digit_is_low : (d : ℕ) → is_ascii_digit d ≡ true → d < 128
digit_is_low d e = let both = and_true (nat_le 48 d) (nat_le d 57) e in omega (arith, leb-true d 57 both.1)

-- and any other number begins with a digit
pub digit_begins : (xs : List ℕ) (b : ℕ) → HasFirstByte b xs → (b ≡ 46 → ⊥) → is_ascii_digit b ≡ begins_number xs
digit_begins [] b h no_point = absurd h
digit_begins (c ∷ cs) b h no_point =
    elim (true_or_false (c == full_stop)) [
      | inl is ↦ (
          let point : c ≡ 46 = eqb-true c full_stop is in
          absurd (no_point (sym (h.1 (omega (arith, point))) ∙ point)))
      | inr other ↦ rw other (both (is_ascii_digit b) (is_ascii_digit c) refl refl ∙ digits_of_ten c)
    ]
  where
    both : (x y : Bool) → is_ascii_digit b ≡ x → is_ascii_digit c ≡ y → is_ascii_digit b ≡ is_ascii_digit c
    both true y e f = ap is_ascii_digit (sym (h.0 (digit_is_low b e)))
    both false true e f = ap is_ascii_digit (sym (h.1 (digit_is_low c f)))
    both false false e f = e ∙ sym f
