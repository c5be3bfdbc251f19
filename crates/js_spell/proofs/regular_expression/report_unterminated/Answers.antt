use Rattle.std.proofs.Common.{[], arith, rules}
use Rattle.js_spell.proofs.BreakSteps.{on_err, unreported}
use Rattle.js_spell.proofs.regular_expression.report_unterminated.Goals as goal

pub returns-in_err-push-clause-err : goal.returns-in_err-push-clause-err
returns-in_err-push-clause-err c =
    on_err c.from_residual.result _
    (unreported [] c.args.source.now c.next_char.new.self c.args.errors.now c.push.new.self
    (search rules) (omega arith) (search rules))

pub returns-clause-ok : goal.returns-clause-ok
returns-clause-ok c = record {
  text = search rules;
  behind = c.next_char.new.self;
  same = search rules;
  onward = search rules;
  stepped = search rules;
  reports = search rules;
  nothing = search rules;
  info_is = search rules;
}
