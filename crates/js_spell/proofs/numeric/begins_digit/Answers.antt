use Rattle.js_source.specs.Source.{rest}
use Rattle.js_spell.specs.Numeric.{radix_of_digits}
use Rattle.js_spell.proofs.NumericSteps.{first_digit, radix_is_small}
use Rattle.js_spell.proofs.numeric.begins_digit.Goals as goal

pub returns-in-Some : goal.returns-in-Some
returns-in-Some c =
    first_digit (radix_of_digits c.args.digits) c.table_of.result.now c.in-Some.b (rest c.args.source.now)
    (radix_is_small c.args.digits) c.table_of.ensures c.in-Some.ensures.some
