use Rattle.std.proofs.Common.{refl, sym, ap, ◌∙◌, false}
use Rattle.js_kind.specs.TokenParts.{TokenParts}
use Rattle.js_spell.specs.declared.spelt.SpeltValue.TheVariants.{Plain}
use Rattle.js_spell.proofs.BreakSteps.{on_err}
use Rattle.js_spell.proofs.NameReadings.{name_broken, unescaped_spelled, escaped_spelled}
use Rattle.js_spell.proofs.name.read_name.Goals as goal

pub returns-then-not-begins_ascii-clause-ok : goal.returns-then-not-begins_ascii-clause-ok
returns-then-not-begins_ascii-clause-ok c =
    unescaped_spelled c.args.source.now c.pass_unescaped-position.new.source c.args.errors.now c.args.token.now
    c.set_has_separator.new.self c.pass_unescaped-position.result c.str_from_pos_to_current-front.result.now
    (record { kind = c.match_keyword.result; value = Plain }) c.pass_unescaped-position.ensures.passes
    (sym c.begins_ascii.ensures ∙ c.if-not-begins_ascii.true)
    (rw c.position-start.ensures.place at c.str_from_pos_to_current-front.ensures.characters)
    (c.set_has_separator.ensures ∙ ap (λ (t : TokenParts). record t { has_separator = false }) c.set_escaped.ensures)
    c.match_keyword.ensures refl

pub returns-clause-ok : goal.returns-clause-ok
returns-clause-ok c =
    escaped_spelled c.args.source.now c.pass_unescaped-position.new.source c.read_escaped_name.new.source
    c.args.errors.now c.read_escaped_name.new.errors c.args.token.now c.set_has_separator-2.new.self
    c.pass_unescaped-position.result c.str_from_pos_to_current-front.result.now c.in_ok-spelt.spelt
    c.pass_unescaped-position.ensures.passes
    (rw c.position-start.ensures.place at c.str_from_pos_to_current-front.ensures.characters)
    c.in_ok-spelt.ensures.ok
    (c.set_has_separator-2.ensures
    ∙ ap (λ (t : TokenParts). record t { has_separator = false }) c.set_escaped-2.ensures)

pub returns-in_err-spelt-clause-err : goal.returns-in_err-spelt-clause-err
returns-in_err-spelt-clause-err c =
    on_err c.from_residual.result _
    (name_broken c.args.source.now c.pass_unescaped-position.new.source c.read_escaped_name.new.source c.args.errors.now
    c.read_escaped_name.new.errors c.pass_unescaped-position.result
    c.pass_unescaped-position.ensures.passes c.in_err-spelt.ensures.err)
