use Rattle.std.proofs.Common.{◌-◌, ◌/◌, ◌++◌, length, drop, arith, ap, sym, ◌∙◌, append_assoc, length-drop}
use Rattle.std.specs.Fmt.{decimal}
use Rattle.js_lex_tool.proofs.Decimals.{decimal_by_first, length_by_first}
use Rattle.js_lex_tool.specs.Numbers.{three_digits}
use Rattle.js_lex_tool.proofs.numbers.put_number.Goals as goal

pub returns-clause-start : goal.returns-clause-start
returns-clause-start c =
    let kept = c.args.first.now in
    let has = kept.of_first in
    let is = c.begin.ensures c.if-not-begin.false in
    let long = length_by_first c.args.number kept.first has.more has.whole is.0 is.1 c.ranges.number.fits in
    let head = ap length has.text in
    omega (arith, long, head, has.width, has.short, length-drop (16 - kept.len) kept.room)

pub returns-clause-written : goal.returns-clause-written
returns-clause-written c =
    let kept = c.args.first.now in
    let has = kept.of_first in
    let is = c.begin.ensures c.if-not-begin.false in
    let number = c.args.number in
    let behind = drop c.args.at c.args.bytes.now in
    let last = c.put_end_of_4-behind in
    c.put_end_of_16.ensures.written
    ∙ ap (λ xs. xs ++ drop last.result last.new.bytes) has.text
    ∙ ap (λ xs. decimal (kept.first / 1000) ++ xs) (last.ensures.written ∙ ap (λ xs. xs ++ behind) c.of.ensures)
    ∙ sym (append_assoc (decimal (kept.first / 1000)) (three_digits (number - kept.first)) behind)
    ∙ ap (λ xs. xs ++ behind)
    (sym (decimal_by_first number kept.first has.more has.whole is.0 is.1 c.ranges.number.fits))
