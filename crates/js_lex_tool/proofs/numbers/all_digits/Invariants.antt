use Rattle.js_lex_tool.proofs.Decimals.{DigitsBelow}
use Rattle.js_lex_tool.proofs.numbers.all_digits.Given as goal

-- The numbers so far have their digits.
abbrev pub invariant-loop-number : goal.invariant-loop-number
invariant-loop-number l = DigitsBelow l.number l.digits
