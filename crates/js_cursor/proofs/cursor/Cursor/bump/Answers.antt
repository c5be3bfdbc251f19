use Rattle.std.proofs.Common.{refl, sym, ◌∙◌}
use Rattle.js_cursor.proofs.TokenSteps.{passed_if_at, unchanged}
use Rattle.js_cursor.proofs.cursor.Cursor.bump.Goals as goal

pub returns-clause-passed : goal.returns-clause-passed
returns-clause-passed g c =
    passed_if_at c.args.kind c.args.self.now c.advance.new.self c.advance.result
    (sym c.at.ensures.answer ∙ c.if-not-at.false) c.advance.ensures.passed

pub returns-then-not-at-clause-onward : goal.returns-then-not-at-clause-onward
returns-then-not-at-clause-onward g c = unchanged c.args.self.now _ refl
