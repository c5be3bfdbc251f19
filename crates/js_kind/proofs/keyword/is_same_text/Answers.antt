use Rattle.std.proofs.Common.{arith, sym}
use Rattle.js_kind.proofs.WordTable.{same_to_the_end}
use Rattle.js_kind.proofs.keyword.is_same_text.Goals as goal

pub returns : goal.returns
returns c =
    sym
    (same_to_the_end c.args.s.now c.args.text.now c.requires
    (λ k h. c.loop-i.invariant k (omega (arith, h, c.loop-i-test.false))))
