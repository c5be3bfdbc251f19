use Rattle.std.proofs.Common.{length}
use Rattle.js_source.specs.Source.{rest}
use Rattle.js_spell.specs.Strings.{PassesCharacters}
use Rattle.js_spell.proofs.ordinary.pass_characters.Given as goal

-- Characters were passed.
abbrev pub invariant-characters : goal.invariant-characters
invariant-characters l = PassesCharacters l.fn.literal l.initial.source l.source

abbrev pub decreases-characters : goal.decreases-characters
decreases-characters l = length (rest l.source)
