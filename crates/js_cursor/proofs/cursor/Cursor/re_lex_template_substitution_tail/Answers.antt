use Rattle.std.proofs.Common.{refl, rules}
use Rattle.js_grammar.specs.declared.goal.Goal.TheVariants.{TemplateTail}
use Rattle.js_cursor.proofs.TokenSteps.{before_in_its_place, on_again, on_view, taken_in_place, unmoved}
use Rattle.js_cursor.proofs.cursor.Cursor.re_lex_template_substitution_tail.Goals as goal

pub invariant_of-self-2 : goal.invariant_of-self-2
invariant_of-self-2 g c =
    on_again TemplateTail _ c.self.inside.lexer _ c.self.inside.token _ c.self.inside.previous_end refl c.self.invariant
    c.in_ok-self-inside.ensures.ok

pub returns-clause-ok : goal.returns-clause-ok
returns-clause-ok g c = search rules

pub returns-clause-stays : goal.returns-clause-stays
returns-clause-stays g c =
    taken_in_place TemplateTail _ _ c.args.self.now _ refl
    (on_view _ _ _ c.self.view_is c.self.invariant) (search rules)
    (returns-clause-ok g c)

pub returns-then-not-may_re_lex-clause-stays : goal.returns-then-not-may_re_lex-clause-stays
returns-then-not-may_re_lex-clause-stays g c =
    unmoved c.args.self.now _ refl

pub returns-in_err-self-inside-clause-stays : goal.returns-in_err-self-inside-clause-stays
returns-in_err-self-inside-clause-stays g c =
    before_in_its_place c.args.self.now _ (search rules) (search rules)
