use Rattle.std.proofs.Common.{rules}
use Rattle.js_kind.proofs.Packing.{is_of, with_span}
use Rattle.js_kind.proofs.token.Token.set_span.Goals as goal

pub invariant_of-self : goal.invariant_of-self
invariant_of-self c =
    (with_span c.args.self.now c.self.inside.bits _ _ _ _ (is_of _ _ c.self.view_is c.self.invariant) (search rules) (search rules) c.put_4_bytes.ensures c.put_4_bytes-self-inside.ensures).only

pub returns : goal.returns
returns c =
    (with_span c.args.self.now c.self.inside.bits _ _ _ _ (is_of _ _ c.self.view_is c.self.invariant) (search rules) (search rules) c.put_4_bytes.ensures c.put_4_bytes-self-inside.ensures).parts
