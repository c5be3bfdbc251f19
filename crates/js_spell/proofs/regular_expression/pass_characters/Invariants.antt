use Rattle.std.proofs.Common.{length}
use Rattle.js_source.specs.Source.{rest}
use Rattle.js_spell.specs.RegularExpression.{PassesParts}
use Rattle.js_spell.proofs.regular_expression.pass_characters.Given as goal

-- Parts were passed.
abbrev pub invariant-characters : goal.invariant-characters
invariant-characters l = PassesParts l.fn.within l.initial.source l.source

abbrev pub decreases-characters : goal.decreases-characters
decreases-characters l = length (rest l.source)
