use Rattle.std.proofs.Common.{arith}
use Rattle.js_kind.proofs.Packing.{is_of, with_end}
use Rattle.js_kind.proofs.token.Token.set_end.Goals as goal

pub invariant_of-self : goal.invariant_of-self
invariant_of-self c =
    (with_end c.args.self.now c.self.inside.bits _ _ (is_of _ _ c.self.view_is c.self.invariant) (omega (arith, c.ranges.end)) c.put_4_bytes-self-inside.ensures).only

pub returns : goal.returns
returns c =
    (with_end c.args.self.now c.self.inside.bits _ _ (is_of _ _ c.self.view_is c.self.invariant) (omega (arith, c.ranges.end)) c.put_4_bytes-self-inside.ensures).parts
