use Rattle.std.proofs.Common.{arith, rules}
use Rattle.js_spell.proofs.BreakSteps.{on_err, unreported}
use Rattle.js_spell.proofs.JsxSteps.{string_closed, string_open}
use Rattle.js_spell.proofs.jsx.read_jsx_string.Goals as goal

pub report_unterminated-requires : goal.report_unterminated-requires
report_unterminated-requires c =
    omega (arith, c.offset-start.ensures.place, c.take_quote-within.ensures.onward, c.pass_text.ensures.onward)

pub returns-in-Some-clause-ok : goal.returns-in-Some-clause-ok
returns-in-Some-clause-ok c =
    string_closed c.args.source.now c.take_quote-within.new.source c.pass_text.new.source c.next_char.new.self
    c.take_quote-within.result c.args.errors.now c.in-Some._quote c.requires c.take_quote-within.ensures.quote
    c.pass_text.ensures.text c.pass_text.ensures.rest c.in-Some.ensures.some c.next_char.ensures.past

pub returns-in_ok-report_unterminated-in-None-clause-ok : goal.returns-in_ok-report_unterminated-in-None-clause-ok
returns-in_ok-report_unterminated-in-None-clause-ok c =
    string_open c.args.source.now c.take_quote-within.new.source c.pass_text.new.source c.take_quote-within.result
    c.args.errors.now c.report_unterminated.new.errors c.offset-start.result
    c.requires c.take_quote-within.ensures.quote c.pass_text.ensures.text
    c.pass_text.ensures.rest c.in-None.ensures.none c.offset-start.ensures.place
    c.in_ok-report_unterminated-in-None.ensures.ok

pub returns-in_err-report_unterminated-in-None-clause-err : goal.returns-in_err-report_unterminated-in-None-clause-err
returns-in_err-report_unterminated-in-None-clause-err c =
    on_err c.from_residual.result _
    (unreported _ c.args.source.now c.pass_text.new.source c.args.errors.now c.report_unterminated.new.errors
    (search rules) (omega arith) (search rules))
