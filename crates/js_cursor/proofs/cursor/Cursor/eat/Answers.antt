use Rattle.std.proofs.Common.{refl, sym, ◌∙◌}
use Rattle.js_cursor.proofs.TokenSteps.{passed_at, unchanged}
use Rattle.js_cursor.proofs.cursor.Cursor.eat.Goals as goal

pub returns-clause-passed : goal.returns-clause-passed
returns-clause-passed g c =
    λ is.
    passed_at c.args.kind c.args.self.now c.advance.new.self (sym c.at.ensures.answer ∙ c.if-not-at.false)
    c.in_ok-advance.ensures.passed

pub returns-then-not-at-clause-onward : goal.returns-then-not-at-clause-onward
returns-then-not-at-clause-onward g c = unchanged c.args.self.now _ refl
