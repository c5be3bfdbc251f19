use Rattle.std.proofs.Common.{◌∙◌}
use Rattle.js_source.specs.Source.{rest}
use Rattle.js_spell.proofs.OrdinaryCharacters.{two_bytes, one_byte}
use Rattle.js_spell.proofs.ordinary.begins_substitution.Goals as goal

pub returns-in-Some : goal.returns-in-Some
returns-in-Some c = c.is_substitution.ensures ∙ two_bytes _ _ (rest c.args.source.now) c.in-Some.ensures.some

pub returns-in-None : goal.returns-in-None
returns-in-None c = one_byte (rest c.args.source.now) c.in-None.ensures.none
