use Rattle.std.proofs.Common.{arith}
use Rattle.js_kind.proofs.Packing.{is_of, with_start}
use Rattle.js_kind.proofs.token.Token.set_start.Goals as goal

pub invariant_of-self : goal.invariant_of-self
invariant_of-self c =
    (with_start c.args.self.now c.self.inside.bits _ _ (is_of _ _ c.self.view_is c.self.invariant) (omega (arith, c.ranges.start)) c.put_4_bytes-self-inside.ensures).only

pub returns : goal.returns
returns c =
    (with_start c.args.self.now c.self.inside.bits _ _ (is_of _ _ c.self.view_is c.self.invariant) (omega (arith, c.ranges.start)) c.put_4_bytes-self-inside.ensures).parts
