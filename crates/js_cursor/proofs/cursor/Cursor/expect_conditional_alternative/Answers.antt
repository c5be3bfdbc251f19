use Rattle.js_cursor.proofs.TokenSteps.{onward_behind, passed_behind, stays_alternative}
use Rattle.js_cursor.proofs.cursor.Cursor.expect_conditional_alternative.Goals as goal

pub returns-clause-passed : goal.returns-clause-passed
returns-clause-passed g c =
    passed_behind c.args.self.now _ c.expect_colon_without_advance.new.self c.advance.new.self
    c.expect_colon_without_advance.ensures (stays_alternative c.args.question_span c.args.self.now) c.advance.result
    c.advance.ensures.passed

pub returns-clause-onward : goal.returns-clause-onward
returns-clause-onward g c =
    onward_behind c.args.self.now _ c.expect_colon_without_advance.new.self c.advance.new.self
    c.expect_colon_without_advance.ensures (stays_alternative c.args.question_span c.args.self.now)
    c.advance.ensures.onward
