use Rattle.std.proofs.Common.{arith}
use Rattle.std.proofs.lemmas.Fmt.{length-decimal-le}
use Rattle.js_lex_tool.proofs.numbers.put_other.Goals as goal

pub write_digits-requires : goal.write_digits-requires
write_digits-requires c =
    let few = length-decimal-le 20 c.args.number (omega arith) (omega arith) c.ranges.number.fits in
    (omega arith, omega arith)
