use Rattle.std.proofs.Common.{rules, ap}
use Rattle.std.proofs.lemmas.Bool.{eq-eqb}
use Rattle.js_kind.specs.Kinds.{number}
use Rattle.js_kind.proofs.KindNumbers.{number_injective}
use Rattle.js_kind.proofs.kind.Kind.is_same.Goals as goal

pub returns : goal.returns
returns c = (
  λ t. number_injective _ _ (search rules),
  λ e. rw (c.number.ensures, c.number-2.ensures) (eq-eqb _ _ (ap number e)),
)
