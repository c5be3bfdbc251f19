use Rattle.std.proofs.Common.{sym, ap, ◌∙◌}
use Rattle.std.proofs.lemmas.Bool.{eq-eqb}
use Rattle.js_kind.specs.Packed.{packed}
use Rattle.js_kind.proofs.Packing.{same_parts}
use Rattle.js_kind.proofs.token.equal_tokens_have_equal_parts.Goals as goal

pub returns : goal.returns
returns c = (
  λ same. same_parts c.first.inside.bits c.second.inside.bits _ _ c.first.view_is c.second.view_is c.first.invariant
      c.second.invariant (sym c.eq.ensures ∙ same),
  λ equal. c.eq.ensures ∙ eq-eqb _ _ (ap packed equal),
)
