use Rattle.std.proofs.Common.{true, false, refl, sym, ◌∙◌}
use Rattle.js_auto.specs.Choice.{begins_expression, ends_substitution}
use Rattle.js_document.proofs.AutoLemmas.{tested_choice}
use Rattle.js_document.proofs.auto_state.AutoState.command_behind.Goals as goal

pub returns-then-is_eof : goal.returns-then-is_eof
returns-then-is_eof c = λ braces is.
    let kind = c.args.kind in
    let before = c.args.self.before in
    tested_choice braces before kind true (ends_substitution braces kind) (begins_expression before kind)
    (sym c.if-is_eof.true ∙ c.is_eof.ensures) refl refl

pub returns-then-ends_substitution : goal.returns-then-ends_substitution
returns-then-ends_substitution c = λ braces is.
    let kind = c.args.kind in
    let before = c.args.self.before in
    tested_choice braces before kind false true (begins_expression before kind)
    (sym c.if-is_eof.false ∙ c.is_eof.ensures)
    (sym c.if-ends_substitution.true ∙ c.ends_substitution.ensures braces is) refl

pub returns-then-begins_expression : goal.returns-then-begins_expression
returns-then-begins_expression c = λ braces is.
    tested_choice braces c.args.self.before c.args.kind false false true (sym c.if-is_eof.false ∙ c.is_eof.ensures)
    (sym c.if-ends_substitution.false ∙ c.ends_substitution.ensures braces is)
    (sym c.if-begins_expression.true ∙ c.begins_expression.ensures)

pub returns-else-begins_expression : goal.returns-else-begins_expression
returns-else-begins_expression c = λ braces is.
    tested_choice braces c.args.self.before c.args.kind false false false (sym c.if-is_eof.false ∙ c.is_eof.ensures)
    (sym c.if-ends_substitution.false ∙ c.ends_substitution.ensures braces is)
    (sym c.if-begins_expression.false ∙ c.begins_expression.ensures)
