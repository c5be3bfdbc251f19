use Rattle.std.proofs.Common.{refl}
use Rattle.js_spell.proofs.EscapeSteps.{no_digit_here, digit_here}
use Rattle.js_spell.proofs.unicode_escape.take_digit.Goals as goal

pub returns-in_err-value-clause-digit : goal.returns-in_err-value-clause-digit
returns-in_err-value-clause-digit c =
    rw c.from_residual-in_err-value.ensures (
      no_digit_here c.args.radix c.in_ok-peek_char.field-0 c.args.source.now c.in_ok-peek_char.ensures.some
          c.in_err-value.ensures.value,
      refl,
    )

pub returns-clause-digit : goal.returns-clause-digit
returns-clause-digit c =
    digit_here c.args.radix c.in_ok-peek_char.field-0 c.in_ok-value.value c.args.source.now c.next_char.new.self
    c.in_ok-peek_char.ensures.some c.in_ok-value.ensures.value.0 c.in_ok-value.ensures.value.1
    (c.next_char.ensures.past c.in_ok-peek_char.field-0)
