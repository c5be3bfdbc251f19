use Rattle.std.proofs.Common.{rules, subst}
use Rattle.std.specs.Str.{IsCharBoundary}
use Rattle.js_cursor.proofs.TokenSteps.{not_advanced, on_end, stays_fatal}
use Rattle.js_cursor.proofs.cursor.Cursor.set_fatal_error.Goals as goal

pub invariant_of-self : goal.invariant_of-self
invariant_of-self g c =
    on_end _ c.self.inside.lexer c.advance_to_end.new.self c.self.inside.token c.self.inside.previous_end
    c.self.invariant
    (subst (IsCharBoundary c.self.inside.lexer.text) c.offset-place.ensures.place c.offset-place.ensures.boundary)
    c.advance_to_end.ensures

pub returns-then-is_some-clause-state : goal.returns-then-is_some-clause-state
returns-then-is_some-clause-state g c = search rules

pub returns-then-is_some-clause-stays : goal.returns-then-is_some-clause-stays
returns-then-is_some-clause-stays g c =
    not_advanced c.args.self.now _ _ (returns-then-is_some-clause-state g c) (stays_fatal c.args.error c.args.self.now)

pub returns-clause-state : goal.returns-clause-state
returns-clause-state g c = search rules

pub returns-clause-stays : goal.returns-clause-stays
returns-clause-stays g c =
    not_advanced c.args.self.now _ _ (returns-clause-state g c) (stays_fatal c.args.error c.args.self.now)
