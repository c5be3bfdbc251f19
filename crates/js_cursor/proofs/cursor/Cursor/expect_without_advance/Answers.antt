use Rattle.std.proofs.Common.{rules}
use Rattle.js_cursor.proofs.TokenSteps.{not_advanced, stays_expecting}
use Rattle.js_cursor.proofs.cursor.Cursor.expect_without_advance.Goals as goal

pub returns-then-at-clause-state : goal.returns-then-at-clause-state
returns-then-at-clause-state g c = search rules

pub returns-then-at-clause-stays : goal.returns-then-at-clause-stays
returns-then-at-clause-stays g c =
    not_advanced c.args.self.now _ _ (returns-then-at-clause-state g c) (stays_expecting c.args.kind c.args.self.now)

pub returns-clause-state : goal.returns-clause-state
returns-clause-state g c = search rules

pub returns-clause-stays : goal.returns-clause-stays
returns-clause-stays g c =
    not_advanced c.args.self.now _ _ (returns-clause-state g c) (stays_expecting c.args.kind c.args.self.now)
