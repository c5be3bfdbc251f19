use Rattle.std.proofs.Common.{◌/◌, arith, rules}
use Rattle.std.proofs.lemmas.Fmt.{length-decimal-le}
use Rattle.js_lex_tool.proofs.numbers.FirstDigits.follow.Goals as goal

pub write_digits-start-requires : goal.write_digits-start-requires
write_digits-start-requires c =
    (length-decimal-le 16 (c.args.number / 1000) (omega arith) (omega arith) (omega arith), search rules)
