use Rattle.std.proofs.Common.{true, false, refl, rules}
use Rattle.js_grammar.specs.declared.goal.Goal.TheVariants.{JsxIdentifier}
use Rattle.js_cursor.proofs.TokenSteps.{on_view, taken_in_place, unmoved}
use Rattle.js_cursor.proofs.cursor.Cursor.continue_lex_jsx_identifier.Goals as goal

pub returns-then-not-is_free-clause-stays : goal.returns-then-not-is_free-clause-stays
returns-then-not-is_free-clause-stays g c =
    unmoved c.args.self.now _ refl

pub returns-in-Some-clause-changed : goal.returns-in-Some-clause-changed
returns-in-Some-clause-changed g c = search rules

pub returns-in-Some-clause-stays : goal.returns-in-Some-clause-stays
returns-in-Some-clause-stays g c =
    taken_in_place JsxIdentifier _ true c.args.self.now _ refl
    (on_view _ _ _ c.self.view_is c.self.invariant) (search rules)
    (returns-in-Some-clause-changed g c)

pub returns-in-None-clause-changed : goal.returns-in-None-clause-changed
returns-in-None-clause-changed g c = search rules

pub returns-in-None-clause-stays : goal.returns-in-None-clause-stays
returns-in-None-clause-stays g c =
    taken_in_place JsxIdentifier _ false c.args.self.now _ refl
    (on_view _ _ _ c.self.view_is c.self.invariant) (search rules)
    (returns-in-None-clause-changed g c)
