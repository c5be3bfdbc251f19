use Rattle.std.proofs.Common.{arith, ℕ, ◌≡◌, ◌-◌, sym, true, [], ◌∷◌}
use Rattle.std.proofs.lemmas.Str.{digit_value_digit}
use Rattle.std.specs.Char.{digit_value}
use Rattle.js_kind.specs.Digits.{is_digit_of}
use Rattle.js_spell.proofs.DecodeSteps.{octal_digit_range, first_octal_digit, octal_value_fits, octal_whole}
use Rattle.js_spell.proofs.DecodeSteps.{octal_stopped}
use Rattle.js_spell.proofs.EscapeSteps.{more_digits}
use Rattle.js_spell.proofs.escape.read_octal_escape.Goals as goal

first_value : (first : ℕ) → is_digit_of 8 first ≡ true → first - 48 ≡ digit_value first
first_value first e = omega (arith, digit_value_digit first (octal_digit_range first e))

pub overflow_sub-value : goal.overflow_sub-value
overflow_sub-value c =
    let range = octal_digit_range c.args.first c.requires in
    omega (arith, digit_value_digit c.args.first range)

pub digits-init : goal.digits-init
digits-init c = record {
  taken =
      first_octal_digit c.args.first (c.args.first - 48) c.args.source.now c.requires
      (first_value c.args.first c.requires);
  within = omega arith;
}

pub overflow_mul-value : goal.overflow_mul-value
overflow_mul-value c =
    omega (
      arith,
      octal_value_fits c.args.first c.args.source.now c.digits.source c.digits.counter c.digits.value
          c.digits.invariant.taken (omega (arith, c.digits-test.true, c.further_octal_digits-end.ensures.few)),
    )

pub overflow_add-value : goal.overflow_add-value
overflow_add-value c =
    omega (
      arith,
      c.in-Some.ensures.value,
      octal_value_fits c.args.first c.args.source.now c.digits.source c.digits.counter c.digits.value
          c.digits.invariant.taken (omega (arith, c.digits-test.true, c.further_octal_digits-end.ensures.few)),
    )

pub returns-in-None : goal.returns-in-None
returns-in-None c =
    let most = c.further_octal_digits-end.ensures.count c.args.first (sym (first_value c.args.first c.requires))
    in
    octal_stopped c.args.first c.args.source.now c.digits.source c.take_digit.new.source c.digits.counter
    c.digits.value c.digits.invariant.taken (omega (arith, most, c.digits-test.true))
    (omega (arith, c.digits-test.true, c.further_octal_digits-end.ensures.few)) c.in-None.ensures.digit

pub digits-preserved : goal.digits-preserved
digits-preserved c = record {
  taken =
      more_digits 8 (c.args.first ∷ []) c.args.source.now c.digits.source c.take_digit.new.source c.digits.counter
      c.digits.value c.in-Some.digit c.digits.invariant.taken c.in-Some.ensures.digit;
  within = omega (arith, c.digits-test.true);
}

pub returns : goal.returns
returns c =
    let most = c.further_octal_digits-end.ensures.count c.args.first (sym (first_value c.args.first c.requires))
    in
    octal_whole c.args.first c.args.source.now c.digits.source c.digits.counter c.digits.value
    c.digits.invariant.taken (omega (arith, most, c.digits-test.false, c.digits.invariant.within))
    (omega (arith, c.digits.invariant.within, c.further_octal_digits-end.ensures.few))
