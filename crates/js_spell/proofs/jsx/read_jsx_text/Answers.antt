use Rattle.std.proofs.Common.{◌++◌, ◌∷◌, [], sym, ◌∙◌, ap, subst, ℕ, Option}
use Rattle.js_text.specs.declared.diagnostic.Diagnostic.TheVariants.{UnexpectedJsxEnd}
use Rattle.std.proofs.Common.{refl, rules}
use Rattle.js_spell.proofs.BreakSteps.{on_err, unreported}
use Rattle.js_spell.proofs.JsxSteps.{text_before_other}
use Rattle.js_spell.proofs.jsx.read_jsx_text.Goals as goal
use Rattle.js_spell.specs.Goals.{IsAtChildEnd}
use Rattle.js_source.specs.Source.{rest}

pub returns-clause-ok : goal.returns-clause-ok
returns-clause-ok c =
    text_before_other c.args.source.now c.pass_child.new.source c.args.errors.now c.push.new.self c.in-Some.b _
    c.pass_child.ensures.text c.in_ok-b.ensures.ok.left
    (subst (λ (end : Option ℕ). IsAtChildEnd end (rest c.pass_child.new.source)) c.in-Some.is
    c.in_ok-b.ensures.ok.end_is).0 (sym c.if-begins_child.ensures) c.offset.ensures.place
    (c.in_ok-push.ensures.ok
    ∙ ap (λ span. c.args.errors.now ++ UnexpectedJsxEnd c.in-Some.b span ∷ []) c.empty-span.ensures)

pub returns-in_err-b-clause-err : goal.returns-in_err-b-clause-err
returns-in_err-b-clause-err c =
    on_err c.from_residual.result _
    (unreported [] c.args.source.now c.pass_child.new.source c.args.errors.now c.args.errors.now
    c.pass_child.ensures.text c.pass_child.ensures.onward refl)

pub returns-in_err-push-clause-err : goal.returns-in_err-push-clause-err
returns-in_err-push-clause-err c =
    on_err c.from_residual-in_err-push.result _
    (unreported [] c.args.source.now c.pass_child.new.source c.args.errors.now c.push.new.self
    c.pass_child.ensures.text c.pass_child.ensures.onward (search rules))
