use Rattle.std.proofs.Common.{arith}
use Rattle.js_lex_tool.proofs.Decimals.{digits_more}
use Rattle.js_lex_tool.proofs.numbers.all_digits.Goals as goal

pub loop-number-preserved : goal.loop-number-preserved
loop-number-preserved c =
    digits_more c.loop-number.digits c.loop-number.number c.three_digits.result (omega arith) c.three_digits.ensures
    c.loop-number.invariant
