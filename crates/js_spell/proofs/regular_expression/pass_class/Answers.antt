use Rattle.std.proofs.Common.{subst}
use Rattle.js_source.specs.Source.{rest}
use Rattle.js_spell.specs.RegularExpression.{StopIs}
use Rattle.js_spell.specs.declared.regular_expression.Stop.{Stop}
use Rattle.js_spell.specs.declared.regular_expression.Within.TheVariants.{Class}
use Rattle.js_spell.proofs.ExpressionSteps.{class_breaks, class_breaks_at_backslash, class_closes, passes_backslash}
use Rattle.js_spell.proofs.ExpressionSteps.{passes_then}
use Rattle.js_spell.proofs.regular_expression.pass_class.Goals as goal

pub returns-in-Closing : goal.returns-in-Closing
returns-in-Closing c =
    let mid = c.pass_characters.new.source in
    class_closes c.args.source.now mid c.next_char.new.self
    (passes_then Class c.args.source.now c.class.source mid c.class.invariant c.pass_characters.ensures.passes)
    (subst (λ (s : Stop). StopIs Class s (rest mid)) c.in-Closing.is c.pass_characters.ensures.stop)
    c.next_char.ensures.past c.next_char.ensures.onward

pub returns-then-not-pass_backslash_sequence : goal.returns-then-not-pass_backslash_sequence
returns-then-not-pass_backslash_sequence c =
    let mid = c.pass_characters.new.source in
    class_breaks_at_backslash c.args.source.now mid c.pass_backslash_sequence.new.source
    (passes_then Class c.args.source.now c.class.source mid c.class.invariant c.pass_characters.ensures.passes)
    c.if-not-pass_backslash_sequence.ensures

pub class-preserved : goal.class-preserved
class-preserved c =
    let mid = c.pass_characters.new.source in
    let new = c.pass_backslash_sequence.new.source in
    passes_then Class c.args.source.now c.class.source new c.class.invariant
    (passes_then Class c.class.source mid new c.pass_characters.ensures.passes
    (passes_backslash Class mid new c.if-not-pass_backslash_sequence.ensures).0)

pub returns-in-LineEnd : goal.returns-in-LineEnd
returns-in-LineEnd c =
    let mid = c.pass_characters.new.source in
    class_breaks c.args.source.now mid
    (passes_then Class c.args.source.now c.class.source mid c.class.invariant c.pass_characters.ensures.passes)
    (subst (λ (s : Stop). StopIs Class s (rest mid)) c.in-LineEnd.is c.pass_characters.ensures.stop)
