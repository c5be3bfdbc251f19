use Rattle.std.proofs.Common.{refl, arith}
use Rattle.js_kind.proofs.Packing.{replaced_under}
use Rattle.js_kind.proofs.packed.put_byte.Goals as goal

pub returns : goal.returns
returns c =
    replaced_under 8 c.args.shift c.args.word c.args.byte 255 refl (omega (arith, c.requires))
    (omega (arith, c.ranges.word)) (omega (arith, c.ranges.byte))
