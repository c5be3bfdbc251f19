use Rattle.std.proofs.Common.{arith, subst, ◌<◌, ◌^◌, Some, []}
use Rattle.js_source.specs.Source.{rest}
use Rattle.js_grammar.specs.UnicodeEscape.{hex_digits}
use Rattle.js_spell.specs.Escape.{ReadsUnicodeEscape}
use Rattle.js_spell.proofs.EscapeSteps.{more_digits, digits_value_small, hex_value_fits, hex_digits_read}
use Rattle.js_spell.proofs.EscapeSteps.{hex_digits_broken}
use Rattle.js_spell.proofs.unicode_escape.read_hex_digits.Goals as goal

pub overflow_mul-value : goal.overflow_mul-value
overflow_mul-value c =
    omega (
      arith,
      c.requires,
      c.digits-test.true,
      hex_value_fits c.args.source.now c.digits.source c.digits.counter c.digits.value c.digits.invariant.taken
          (omega (arith, c.requires, c.digits-test.true)),
    )

pub overflow_add-value : goal.overflow_add-value
overflow_add-value c =
    omega (
      arith,
      c.in_ok-value.ensures.value,
      hex_value_fits c.args.source.now c.digits.source c.digits.counter c.digits.value c.digits.invariant.taken
          (omega (arith, c.requires, c.digits-test.true)),
    )

pub returns-in_err-value-clause-read : goal.returns-in_err-value-clause-read
returns-in_err-value-clause-read c =
    rw c.from_residual.ensures
    (hex_digits_broken c.args.source.now c.digits.source c.take_hex_digit.new.source c.args.count c.digits.counter
    c.digits.value c.digits.invariant.taken c.digits-test.true c.in_err-value.ensures.digit)

pub digits-preserved : goal.digits-preserved
digits-preserved c = record {
  taken =
      more_digits 16 [] c.args.source.now c.digits.source c.take_hex_digit.new.source c.digits.counter c.digits.value
      c.in_ok-value.field-0 c.digits.invariant.taken c.in_ok-value.ensures.digit;
  within = omega (arith, c.digits-test.true);
}

pub returns-clause-read : goal.returns-clause-read
returns-clause-read c =
    subst (λ n. ReadsUnicodeEscape (hex_digits n (rest c.args.source.now)) c.args.source.now c.digits.source
    (Some c.digits.value))
    (omega (arith, c.digits-test.false, c.digits.invariant.within))
    (hex_digits_read c.args.source.now c.digits.source c.digits.counter c.digits.value c.digits.invariant.taken)

pub returns-clause-small : goal.returns-clause-small
returns-clause-small c =
    subst (λ n. c.digits.value < 16 ^ n) (omega (arith, c.digits-test.false, c.digits.invariant.within))
    (digits_value_small 16 [] c.args.source.now c.digits.source c.digits.counter c.digits.value
    c.digits.invariant.taken)
