use Rattle.std.proofs.Common.{◌≡◌, ◌+◌, ◌<◌, ◌∙◌, ℕ, ap, arith}
use Rattle.std.proofs.lemmas.Nat.Bits.{bit_at-zero}
use Rattle.std.specs.Int.{bit_at}
use Rattle.js_source.proofs.Fours.{block_passed, none_passed, passed_on}
use Rattle.js_source.proofs.four.FourBytes.pass_others.Goals as goal

pub loop-at-init : goal.loop-at-init
loop-at-init c = none_passed c.args.self c.args.bytes.now c.args.from c.requires

pub returns-then-marks-ne0 : goal.returns-then-marks-ne0
returns-then-marks-ne0 c =
    let at = c.loop-at.at in
    let within : c.first_mark.result < 32 = c.marks-marks.ensures.within _ c.first_mark.ensures.set in
    passed_on c.args.self c.args.bytes.now c.args.from at (at + c.first_mark.result) c.loop-at.invariant (omega arith)
    (omega (arith, c.loop-at-test.true, within))
    (block_passed c.args.self c.args.bytes.now at c.first_mark.result c.marks-marks.result c.marks-marks.ensures.marked
    c.first_mark.ensures.below (omega (arith, within)))

pub loop-at-preserved : goal.loop-at-preserved
loop-at-preserved c =
    let at = c.loop-at.at in
    passed_on c.args.self c.args.bytes.now c.args.from at (at + 32) c.loop-at.invariant (omega arith)
    (omega (arith, c.loop-at-test.true))
    (block_passed c.args.self c.args.bytes.now at 32 c.marks-marks.result c.marks-marks.ensures.marked
    (λ k low. none_set c.marks-marks.result k c.if-marks-ne0.false) (omega arith))
  where
    none_set : (marks k : ℕ) → marks ≡ 0 → bit_at marks k ≡ 0
    none_set marks k is = ap (λ m. bit_at m k) is ∙ bit_at-zero k
