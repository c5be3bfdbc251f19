use Rattle.js_cursor.proofs.TokenSteps.{onward_behind, passed_behind, stays_expecting}
use Rattle.js_cursor.proofs.cursor.Cursor.expect_jsx_child.Goals as goal

pub returns-clause-passed : goal.returns-clause-passed
returns-clause-passed g c =
    passed_behind c.args.self.now _ c.expect_without_advance.new.self c.advance_for_jsx_child.new.self
    c.expect_without_advance.ensures.state (stays_expecting c.args.kind c.args.self.now) c.advance_for_jsx_child.result
    c.advance_for_jsx_child.ensures.passed

pub returns-clause-onward : goal.returns-clause-onward
returns-clause-onward g c =
    onward_behind c.args.self.now _ c.expect_without_advance.new.self c.advance_for_jsx_child.new.self
    c.expect_without_advance.ensures.state (stays_expecting c.args.kind c.args.self.now)
    c.advance_for_jsx_child.ensures.onward
