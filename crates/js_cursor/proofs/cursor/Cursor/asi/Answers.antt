use Rattle.std.proofs.Common.{sym, ◌∙◌}
use Rattle.js_kind.specs.declared.kind.Kind.TheVariants.{Semicolon}
use Rattle.js_cursor.proofs.TokenSteps.{passed_if_at, starts_behind_semicolon, stays_back, stays_semicolon}
use Rattle.js_cursor.proofs.cursor.Cursor.asi.Goals as goal

pub returns-clause-onward : goal.returns-clause-onward
returns-clause-onward g c =
    stays_back c.args.self.now _ c.expect_semicolon_inserted.new.self c.expect_semicolon_inserted.ensures
    (stays_semicolon c.args.self.now)

pub returns-then-at-clause-starts : goal.returns-then-at-clause-starts
returns-then-at-clause-starts g c =
    starts_behind_semicolon c.args.self.now c.advance.new.self c.advance.result
    (sym c.at.ensures.answer ∙ c.if-at.true) c.advance.ensures.passed

pub returns-then-at-clause-passed : goal.returns-then-at-clause-passed
returns-then-at-clause-passed g c =
    passed_if_at Semicolon c.args.self.now c.advance.new.self c.advance.result
    (sym c.at.ensures.answer ∙ c.if-at.true) c.advance.ensures.passed
