use Rattle.std.proofs.Common.{refl, sym, arith}
use Rattle.std.proofs.lemmas.Fmt.{decimal_digit}
use Rattle.js_lex_tool.proofs.numbers.FirstDigits.new.Goals as goal

pub invariant_of-result : goal.invariant_of-result
invariant_of-result c = record {
  of_first = record {
    more = omega arith;
    few = omega arith;
    whole = refl;
    width = refl;
    short = omega arith;
    text = sym (decimal_digit 1 (omega arith));
  };
}
