use Rattle.std.proofs.Common.{refl, arith}
use Rattle.js_kind.proofs.Packing.{replaced_under}
use Rattle.js_kind.proofs.packed.put_4_bytes.Goals as goal

pub returns : goal.returns
returns c =
    replaced_under 32 c.args.shift c.args.word c.args.bytes 4294967295 refl (omega (arith, c.requires))
    (omega (arith, c.ranges.word)) (omega (arith, c.ranges.bytes))
