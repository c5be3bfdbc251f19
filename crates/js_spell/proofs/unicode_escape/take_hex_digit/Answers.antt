use Rattle.std.proofs.Common.{refl}
use Rattle.js_source.specs.Source.{rest}
use Rattle.js_spell.proofs.EscapeSteps.{no_hex_digit_here}
use Rattle.js_spell.proofs.unicode_escape.take_hex_digit.Goals as goal

pub returns-in_err-value-clause-digit : goal.returns-in_err-value-clause-digit
returns-in_err-value-clause-digit c =
    rw c.from_residual-in_err-value.ensures (
      no_hex_digit_here c.in_ok-b.b (rest c.args.source.now) c.in_ok-b.ensures.some c.in_err-value.ensures.none,
      refl,
    )
