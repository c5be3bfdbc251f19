use Rattle.std.proofs.Common.{subst}
use Rattle.js_spell.specs.Strings.{EndsPart}
use Rattle.js_spell.specs.declared.template.PartEnd.{PartEnd}
use Rattle.js_spell.specs.declared.template.PartEnd.TheVariants.{Tail, Substitution, Missing}
use Rattle.js_spell.specs.declared.ordinary.Literal.TheVariants.{Template}
use Rattle.js_spell.proofs.BreakSteps.{on_err}
use Rattle.js_spell.proofs.ItemSteps.{end_broken}
use Rattle.js_spell.proofs.SpellSteps.{part_broken, part_closed, part_substituted, part_open}
use Rattle.js_spell.proofs.template.read_template_part.Goals as goal

pub returns-in-Tail-clause-ok : goal.returns-in-Tail-clause-ok
returns-in-Tail-clause-ok c =
    let here = c.read_value.new.source in
    let new = c.end_part.new.source in
    let between = c.read_value.new.errors in
    let after = c.end_part.new.errors in
    let ends : EndsPart c.args.token.now.start here new between after Tail =
    subst (λ (end : PartEnd). EndsPart c.args.token.now.start here new between after end) c.in-Tail.is
    (subst (λ s. EndsPart s here new between after c.in_ok-end_part.field-0) c.start.ensures
    c.in_ok-end_part.ensures.ok) in
    λ opening.
    part_closed c.args.substitute c.args.tail opening c.args.token.now.start c.args.source.now here new
    c.args.errors.now
    between
    after c.args.token.now c.spell.new.token c.spell.result c.in_ok-value.value c.requires
    c.in_ok-value.ensures.ok ends c.spell.ensures.flags c.spell.ensures.parts

pub returns-in-Substitution-clause-ok : goal.returns-in-Substitution-clause-ok
returns-in-Substitution-clause-ok c =
    let here = c.read_value.new.source in
    let new = c.end_part.new.source in
    let between = c.read_value.new.errors in
    let after = c.end_part.new.errors in
    let ends : EndsPart c.args.token.now.start here new between after Substitution =
    subst (λ (end : PartEnd). EndsPart c.args.token.now.start here new between after end) c.in-Substitution.is
    (subst (λ s. EndsPart s here new between after c.in_ok-end_part.field-0) c.start.ensures
    c.in_ok-end_part.ensures.ok) in
    λ opening.
    part_substituted c.args.substitute c.args.tail opening c.args.token.now.start c.args.source.now here new
    c.args.errors.now between after c.args.token.now c.spell-in-Substitution.new.token c.spell-in-Substitution.result
    c.in_ok-value.value c.requires c.in_ok-value.ensures.ok ends c.spell-in-Substitution.ensures.flags
    c.spell-in-Substitution.ensures.parts

pub returns-in-Missing-clause-ok : goal.returns-in-Missing-clause-ok
returns-in-Missing-clause-ok c =
    let here = c.read_value.new.source in
    let new = c.end_part.new.source in
    let between = c.read_value.new.errors in
    let after = c.end_part.new.errors in
    let ends : EndsPart c.args.token.now.start here new between after Missing =
    subst (λ (end : PartEnd). EndsPart c.args.token.now.start here new between after end) c.in-Missing.is
    (subst (λ s. EndsPart s here new between after c.in_ok-end_part.field-0) c.start.ensures
    c.in_ok-end_part.ensures.ok) in
    λ opening.
    part_open c.args.substitute c.args.tail opening c.args.token.now.start c.args.source.now here new
    c.args.errors.now between
    after c.args.token.now c.spell-in-Missing.new.token c.spell-in-Missing.result c.in_ok-value.value
    c.requires c.in_ok-value.ensures.ok ends c.spell-in-Missing.ensures.flags c.spell-in-Missing.ensures.parts

pub returns-in_err-value-clause-err : goal.returns-in_err-value-clause-err
returns-in_err-value-clause-err c =
    on_err c.from_residual.result _
    (λ opening. part_broken c.args.substitute c.args.tail opening c.args.token.now.start c.args.source.now
    c.read_value.new.source c.args.errors.now c.read_value.new.errors c.requires c.in_err-value.ensures.err)

pub returns-in_err-end_part-clause-err : goal.returns-in_err-end_part-clause-err
returns-in_err-end_part-clause-err c =
    let new = c.end_part.new.source in
    on_err c.from_residual-in_err-end_part.result _
    (λ opening. part_broken c.args.substitute c.args.tail opening c.args.token.now.start c.args.source.now new
    c.args.errors.now c.end_part.new.errors c.requires
    (end_broken Template c.args.token.now.start c.args.source.now c.read_value.new.source new c.args.errors.now
    c.read_value.new.errors c.end_part.new.errors c.in_ok-value.value
    c.in_ok-value.ensures.ok c.in_err-end_part.ensures.err))
