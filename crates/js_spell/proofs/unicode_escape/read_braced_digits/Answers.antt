use Rattle.std.proofs.Common.{arith, subst, ◌≡◌, ◌==◌, false}
use Rattle.js_text.specs.Characters.{begins}
use Rattle.js_grammar.specs.UnicodeEscape.{right_curly_bracket}
use Rattle.js_source.specs.Source.{At, rest, Reads}
use Rattle.js_spell.proofs.EscapeSteps.{first_of_code_point, more_of_code_point, code_point_too_great, no_code_point}
use Rattle.js_spell.proofs.EscapeSteps.{code_point_closed, code_point_open}
use Rattle.js_spell.proofs.unicode_escape.read_braced_digits.Goals as goal

pub returns-in_err-value-clause-read : goal.returns-in_err-value-clause-read
returns-in_err-value-clause-read c =
    rw c.from_residual.ensures
    (no_code_point c.args.source.now c.take_hex_digit.new.source c.in_err-value.ensures.digit)

pub digits-init : goal.digits-init
digits-init c = record {
  taken =
      first_of_code_point c.args.source.now c.take_hex_digit.new.source c.in_ok-value.value c.in_ok-value.ensures.digit;
  small = omega (arith, c.in_ok-value.ensures.value);
}

pub returns-then-value-gt-LAST_CODE_POINT-clause-read : goal.returns-then-value-gt-LAST_CODE_POINT-clause-read
returns-then-value-gt-LAST_CODE_POINT-clause-read c =
    code_point_too_great c.args.source.now c.digits.source c.take_hex_digit-in-digits.new.source c.digits.value
    c.in-Some.digit c.digits.invariant.taken c.in-Some.ensures.digit (omega (arith, c.if-value-gt-LAST_CODE_POINT.true))

pub digits-preserved : goal.digits-preserved
digits-preserved c = record {
  taken =
      more_of_code_point c.args.source.now c.digits.source c.take_hex_digit-in-digits.new.source c.digits.value
      c.in-Some.digit c.digits.invariant.taken c.in-Some.ensures.digit
      (omega (arith, c.if-value-gt-LAST_CODE_POINT.false));
  small = omega (arith, c.if-value-gt-LAST_CODE_POINT.false);
}

pub returns-then-advance_if_ascii_eq-clause-read : goal.returns-then-advance_if_ascii_eq-clause-read
returns-then-advance_if_ascii_eq-clause-read c =
    let none = c.in_default.ensures.digit in
    code_point_closed c.args.source.now c.digits.source c.advance_if_ascii_eq.new.self c.digits.value
    c.digits.invariant.taken none.0 c.digits.invariant.small
    (subst (λ (at : At). Reads at c.advance_if_ascii_eq.new.self right_curly_bracket) none.1
    c.if-advance_if_ascii_eq.ensures.cases)

pub returns-else-advance_if_ascii_eq-clause-read : goal.returns-else-advance_if_ascii_eq-clause-read
returns-else-advance_if_ascii_eq-clause-read c =
    let none = c.in_default.ensures.digit in
    let other = c.if-advance_if_ascii_eq.ensures.cases in
    rw (other.1, none.1)
    (code_point_open c.args.source.now c.digits.source c.digits.value c.digits.invariant.taken none.0
    (subst (λ (at : At). begins (λ c. c == right_curly_bracket) (rest at) ≡ false) none.1 other.0))
