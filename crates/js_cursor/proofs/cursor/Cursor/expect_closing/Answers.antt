use Rattle.js_cursor.proofs.TokenSteps.{onward_behind, passed_behind, stays_closing}
use Rattle.js_cursor.proofs.cursor.Cursor.expect_closing.Goals as goal

pub returns-clause-passed : goal.returns-clause-passed
returns-clause-passed g c =
    passed_behind c.args.self.now _ c.expect_closing_without_advance.new.self c.advance.new.self
    c.expect_closing_without_advance.ensures (stays_closing c.args.kind c.args.opening_span c.args.self.now)
    c.advance.result c.advance.ensures.passed

pub returns-clause-onward : goal.returns-clause-onward
returns-clause-onward g c =
    onward_behind c.args.self.now _ c.expect_closing_without_advance.new.self c.advance.new.self
    c.expect_closing_without_advance.ensures (stays_closing c.args.kind c.args.opening_span c.args.self.now)
    c.advance.ensures.onward
