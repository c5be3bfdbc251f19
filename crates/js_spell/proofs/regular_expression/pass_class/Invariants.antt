use Rattle.std.proofs.Common.{length}
use Rattle.js_source.specs.Source.{rest}
use Rattle.js_spell.specs.RegularExpression.{PassesParts}
use Rattle.js_spell.specs.declared.regular_expression.Within.TheVariants.{Class}
use Rattle.js_spell.proofs.regular_expression.pass_class.Given as goal

-- Parts of the class were passed.
abbrev pub invariant-class : goal.invariant-class
invariant-class l = PassesParts Class l.fn.source l.source

abbrev pub decreases-class : goal.decreases-class
decreases-class l = length (rest l.source)
