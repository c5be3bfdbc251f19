use Rattle.std.proofs.Common.{[], arith, rules}
use Rattle.js_spell.proofs.BreakSteps.{on_err, unreported}
use Rattle.js_spell.proofs.string.end_string.Goals as goal

pub returns-in_err-report_unterminated-clause-err : goal.returns-in_err-report_unterminated-clause-err
returns-in_err-report_unterminated-clause-err c =
    on_err c.from_residual.result _
    (unreported [] c.args.source.now c.next_char.new.self c.args.errors.now c.report_unterminated.new.errors
    (search rules) (omega arith) (search rules))
