use Rattle.std.proofs.Common.{refl, rules}
use Rattle.js_grammar.specs.declared.goal.Goal.TheVariants.{RightAngle}
use Rattle.js_cursor.proofs.TokenSteps.{on_again, on_view, taken_in_place, unmoved}
use Rattle.js_cursor.proofs.cursor.Cursor.take_right_angle.Goals as goal

pub invariant_of-self : goal.invariant_of-self
invariant_of-self g c =
    on_again RightAngle _ c.self.inside.lexer _ c.self.inside.token _ c.self.inside.previous_end refl c.self.invariant
    c.re_lex_right_angle-self-inside.ensures.token

pub returns-clause-taken : goal.returns-clause-taken
returns-clause-taken g c = search rules

pub returns-clause-stays : goal.returns-clause-stays
returns-clause-stays g c =
    taken_in_place RightAngle _ _ c.args.self.now _ refl
    (on_view _ _ _ c.self.view_is c.self.invariant) (search rules)
    (returns-clause-taken g c)

pub returns-then-not-may_re_lex-clause-stays : goal.returns-then-not-may_re_lex-clause-stays
returns-then-not-may_re_lex-clause-stays g c =
    unmoved c.args.self.now _ refl
