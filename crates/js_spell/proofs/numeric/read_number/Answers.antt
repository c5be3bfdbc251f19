use Rattle.std.proofs.Common.{◌∙◌, ap}
use Rattle.js_kind.specs.TokenParts.{TokenParts}
use Rattle.js_spell.proofs.EndSteps.{number_spells}
use Rattle.js_spell.proofs.numeric.read_number.Goals as goal

pub returns-clause-ok : goal.returns-clause-ok
returns-clause-ok c =
    let numeral = c.in_ok-numeral.numeral in
    number_spells c.args.source.now c.read_numeral.new.source c.args.errors.now c.read_numeral.new.errors
    c.args.token.now
    c.set_has_separator.new.self numeral.kind numeral.has_separator c.in_ok-numeral.ensures.ok
    (c.set_has_separator.ensures
    ∙ ap (λ (t : TokenParts). record t { has_separator = numeral.has_separator }) c.set_escaped.ensures)
