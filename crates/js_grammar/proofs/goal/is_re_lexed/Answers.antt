use Rattle.std.proofs.Common.{sym, ◌∙◌}
use Rattle.js_grammar.specs.declared.goal.Goal.TheVariants.{TemplateTail, RegularExpression, RightAngle}
use Rattle.js_grammar.specs.declared.goal.Goal.TheVariants.{TypeScriptLeftAngle}
use Rattle.js_grammar.proofs.AgainKinds.{again_is_re_lexed}
use Rattle.js_grammar.proofs.goal.is_re_lexed.Goals as goal

pub returns-then-reads_again : goal.returns-then-reads_again
returns-then-reads_again c =
    sym (again_is_re_lexed TemplateTail c.args.kind (sym c.reads_again.ensures ∙ c.if-reads_again.true))

pub returns-then-reads_again-2 : goal.returns-then-reads_again-2
returns-then-reads_again-2 c =
    sym (again_is_re_lexed RegularExpression c.args.kind (sym c.reads_again-2.ensures ∙ c.if-reads_again-2.true))

pub returns-then-reads_again-3 : goal.returns-then-reads_again-3
returns-then-reads_again-3 c =
    sym (again_is_re_lexed RightAngle c.args.kind (sym c.reads_again-3.ensures ∙ c.if-reads_again-3.true))

pub returns-then-reads_again-4 : goal.returns-then-reads_again-4
returns-then-reads_again-4 c =
    sym (again_is_re_lexed TypeScriptLeftAngle c.args.kind (sym c.reads_again-4.ensures ∙ c.if-reads_again-4.true))
