use Rattle.std.proofs.Common.{◌≡◌, None, Some, get_or, arith, sym, ◌∙◌}
use Rattle.std.specs.Result.{result_ok}
use Rattle.js_lex_tool.proofs.Counts.{count_in-low, count_in-err, count_in-parsed}
use Rattle.js_lex_tool.proofs.words.parse_count.Goals as goal

pub returns-then-first-le48 : goal.returns-then-first-le48
returns-then-first-le48 c =
    let first = c.in_ok-first.ensures.item.3.1 0 in
    let at : c.in_ok-first.first.now ≡ get_or c.args.digits.now 0 0 = rw c.as_bytes.ensures.value at first in
    sym (count_in-low c.args.most c.args.digits.now (omega arith) (omega arith))

pub returns-in_err-count : goal.returns-in_err-count
returns-in_err-count c =
    let none : result_ok c.parse.result ≡ None = sym c.ok.ensures.value ∙ c.in_err-count.was in
    c.from_residual-in_err-count.ensures
    ∙ sym (count_in-err c.args.most c.args.digits.now c.parse.result (omega arith) none c.parse.ensures.value.0)

pub returns-then-count-most : goal.returns-then-count-most
returns-then-count-most c =
    let some : result_ok c.parse.result ≡ Some c.in_ok-count.count = sym c.ok.ensures.value ∙ c.in_ok-count.was in
    let first = c.in_ok-first.ensures.item.3.1 0 in
    let at : c.in_ok-first.first.now ≡ get_or c.args.digits.now 0 0 = rw c.as_bytes.ensures.value at first in
    sym
    (count_in-parsed c.args.most c.args.digits.now c.parse.result c.in_ok-count.count (omega arith) some
    c.parse.ensures.value.0 (omega arith) c.if-count-most.true)
