use Rattle.std.proofs.Common.{refl, rules, sym, ◌∙◌}
use Rattle.js_kind.specs.declared.kind.Kind.TheVariants.{LAngle}
use Rattle.js_grammar.specs.declared.goal.Goal.TheVariants.{TypeScriptLeftAngle}
use Rattle.js_cursor.proofs.CursorSteps.{angle_taken}
use Rattle.js_cursor.proofs.TokenSteps.{on_again, on_view, taken_in_place, unmoved}
use Rattle.js_cursor.proofs.cursor.Cursor.re_lex_ts_l_angle.Goals as goal

pub returns-clause-answer : goal.returns-clause-answer
returns-clause-answer g c =
    angle_taken LAngle TypeScriptLeftAngle c.args.self.now (sym c.has_fatal_error.ensures ∙ c.if-has_fatal_error.false)
    (sym c.may_re_lex.ensures.answer ∙ c.if-not-may_re_lex.false)

pub invariant_of-self : goal.invariant_of-self
invariant_of-self g c =
    on_again TypeScriptLeftAngle _ c.self.inside.lexer _ c.self.inside.token _ c.self.inside.previous_end refl
    c.self.invariant
    c.re_lex_as_typescript_l_angle-self-inside.ensures.token

pub returns-clause-taken : goal.returns-clause-taken
returns-clause-taken g c = search rules

pub returns-clause-stays : goal.returns-clause-stays
returns-clause-stays g c =
    taken_in_place TypeScriptLeftAngle _ _ c.args.self.now _ refl
    (on_view _ _ _ c.self.view_is c.self.invariant) (search rules)
    (returns-clause-taken g c)

pub returns-then-not-may_re_lex-clause-stays : goal.returns-then-not-may_re_lex-clause-stays
returns-then-not-may_re_lex-clause-stays g c =
    unmoved c.args.self.now _ refl

pub returns-then-has_fatal_error-clause-stays : goal.returns-then-has_fatal_error-clause-stays
returns-then-has_fatal_error-clause-stays g c =
    unmoved c.args.self.now _ refl
