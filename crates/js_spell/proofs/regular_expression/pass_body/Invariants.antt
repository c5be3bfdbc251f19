use Rattle.std.proofs.Common.{length}
use Rattle.js_source.specs.Source.{rest}
use Rattle.js_spell.specs.RegularExpression.{PassesParts}
use Rattle.js_spell.specs.declared.regular_expression.Within.TheVariants.{Body}
use Rattle.js_spell.proofs.regular_expression.pass_body.Given as goal

-- Parts of the body were passed.
abbrev pub invariant-body : goal.invariant-body
invariant-body l = PassesParts Body l.fn.source l.source

abbrev pub decreases-body : goal.decreases-body
decreases-body l = length (rest l.source)
