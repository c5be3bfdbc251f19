use Rattle.std.proofs.Common.{subst}
use Rattle.js_source.specs.Source.{rest}
use Rattle.js_spell.specs.RegularExpression.{StopIs}
use Rattle.js_spell.specs.declared.regular_expression.Stop.{Stop}
use Rattle.js_spell.specs.declared.regular_expression.Within.TheVariants.{Body}
use Rattle.js_spell.proofs.ExpressionSteps.{body_breaks, body_breaks_at_backslash, body_breaks_in_class, body_class}
use Rattle.js_spell.proofs.ExpressionSteps.{passes_backslash, passes_then}
use Rattle.js_spell.proofs.regular_expression.pass_body.Goals as goal

pub returns-then-not-pass_backslash_sequence : goal.returns-then-not-pass_backslash_sequence
returns-then-not-pass_backslash_sequence c =
    let mid = c.pass_characters.new.source in
    body_breaks_at_backslash c.args.source.now mid c.pass_backslash_sequence.new.source
    (passes_then Body c.args.source.now c.body.source mid c.body.invariant c.pass_characters.ensures.passes)
    c.if-not-pass_backslash_sequence.ensures

pub body-preserved-else-not-pass_backslash_sequence : goal.body-preserved-else-not-pass_backslash_sequence
body-preserved-else-not-pass_backslash_sequence c =
    let mid = c.pass_characters.new.source in
    let new = c.pass_backslash_sequence.new.source in
    passes_then Body c.args.source.now c.body.source new c.body.invariant
    (passes_then Body c.body.source mid new c.pass_characters.ensures.passes
    (passes_backslash Body mid new c.if-not-pass_backslash_sequence.ensures).0)

pub returns-then-not-pass_class : goal.returns-then-not-pass_class
returns-then-not-pass_class c =
    let mid = c.pass_characters.new.source in
    body_breaks_in_class c.args.source.now mid c.next_char.new.self c.pass_class.new.source
    (passes_then Body c.args.source.now c.body.source mid c.body.invariant c.pass_characters.ensures.passes)
    (subst (λ (s : Stop). StopIs Body s (rest mid)) c.in-Opening.is c.pass_characters.ensures.stop).1
    c.next_char.ensures.past c.next_char.ensures.onward c.if-not-pass_class.ensures

pub body-preserved : goal.body-preserved
body-preserved c =
    let mid = c.pass_characters.new.source in
    let new = c.pass_class.new.source in
    (body_class c.args.source.now mid c.next_char.new.self new
    (passes_then Body c.args.source.now c.body.source mid c.body.invariant
    c.pass_characters.ensures.passes)
    (subst (λ (s : Stop). StopIs Body s (rest mid)) c.in-Opening.is c.pass_characters.ensures.stop).1
    c.next_char.ensures.past c.next_char.ensures.onward c.if-not-pass_class.ensures).0

pub returns-in-LineEnd : goal.returns-in-LineEnd
returns-in-LineEnd c =
    let mid = c.pass_characters.new.source in
    body_breaks c.args.source.now mid
    (passes_then Body c.args.source.now c.body.source mid c.body.invariant c.pass_characters.ensures.passes)
    (subst (λ (s : Stop). StopIs Body s (rest mid)) c.in-LineEnd.is c.pass_characters.ensures.stop)
