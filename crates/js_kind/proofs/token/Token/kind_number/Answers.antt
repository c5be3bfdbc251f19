use Rattle.std.proofs.Common.{◌∙◌}
use Rattle.js_kind.proofs.Packing.{is_of, number_at}
use Rattle.js_kind.proofs.token.Token.kind_number.Goals as goal

pub returns : goal.returns
returns c =
    c.last_byte.ensures
    ∙ number_at c.self.inside.bits c.args.self.now (is_of _ _ c.self.view_is c.self.invariant)
