use Rattle.std.proofs.Common.{arith}
use Rattle.js_session.specs.declared.command.Command.TheVariants.{Next}
use Rattle.js_relex.proofs.EndLemmas.{one_differs, one_more}
use Rattle.js_relex.proofs.join.common_end.Goals as goal

pub returns-then-not-is_same : goal.returns-then-not-is_same
returns-then-not-is_same c =
    one_differs c.args.old.now c.args.new.now c.loop-common.common Next Next (omega (arith, c.loop-common-test.true))
    (omega (arith, c.if-common-new.false))
    (λ same. let yes = c.is_same.ensures.1 same in let no = c.if-not-is_same.true in absurd (cc))
    c.loop-common.invariant

pub loop-common-preserved : goal.loop-common-preserved
loop-common-preserved c =
    one_more c.args.old.now c.args.new.now c.loop-common.common Next Next (omega (arith, c.loop-common-test.true))
    (omega (arith, c.if-common-new.false)) (c.is_same.ensures.0 (let yes = c.if-not-is_same.false in cc))
    c.loop-common.invariant
