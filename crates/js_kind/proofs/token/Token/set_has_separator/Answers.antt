use Rattle.js_kind.proofs.Packing.{is_of, with_separator}
use Rattle.js_kind.proofs.token.Token.set_has_separator.Goals as goal

pub invariant_of-self : goal.invariant_of-self
invariant_of-self c =
    (with_separator c.args.self.now c.self.inside.bits _ _ c.args.value (is_of _ _ c.self.view_is c.self.invariant) c.byte_of.ensures c.put_byte-self-inside.ensures).only

pub returns : goal.returns
returns c =
    (with_separator c.args.self.now c.self.inside.bits _ _ c.args.value (is_of _ _ c.self.view_is c.self.invariant) c.byte_of.ensures c.put_byte-self-inside.ensures).parts
