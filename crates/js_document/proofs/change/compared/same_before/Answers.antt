use Rattle.std.proofs.Common.{arith, get_or, subst, sym}
use Rattle.js_document.specs.Changed.{IsSameBefore}
use Rattle.js_document.proofs.ChangeLemmas.{common_differs, common_more, common_new_end, common_old_end}
use Rattle.js_document.proofs.change.compared.same_before.Goals as goal

pub returns-then-count-new-clause-common : goal.returns-then-count-new-clause-common
returns-then-count-new-clause-common g c =
    common_new_end (IsSameBefore (g.T.Placed.EndsBy c.args.start)) c.args.old.now c.args.new.now c.loop-count.count
    (omega (arith, c.if-count-new.true)) c.loop-count.invariant.common

pub returns-then-not-is_same_before-clause-common : goal.returns-then-not-is_same_before-clause-common
returns-then-not-is_same_before-clause-common g c =
    let old = c.index-old-count.result in
    let new = c.index-new-count.result in
    let P = IsSameBefore (g.T.Placed.EndsBy c.args.start) in
    common_differs P c.args.old.now c.args.new.now c.loop-count.count old new (omega (arith, c.loop-count-test.true))
    (omega (arith, c.if-count-new.false))
    (λ same.
    let here = subst (λ x. P x new) (sym c.index-old-count.is) (subst (P (get_or c.args.old.now c.loop-count.count old)) (sym c.index-new-count.is) same) in
    let yes = c.is_same_before.ensures.1 here in
    let no = c.if-not-is_same_before.true in
    absurd (cc))
    c.loop-count.invariant.common

pub loop-count-preserved : goal.loop-count-preserved
loop-count-preserved g c =
    let old = c.index-old-count.result in
    let new = c.index-new-count.result in
    let P = IsSameBefore (g.T.Placed.EndsBy c.args.start) in
    let here = c.is_same_before.ensures.0 (let yes = c.if-not-is_same_before.false in cc) in
    record {
      few_old = omega (arith, c.loop-count-test.true);
      few_new = omega (arith, c.if-count-new.false);
      common =
          common_more P c.args.old.now c.args.new.now c.loop-count.count old new (omega (arith, c.loop-count-test.true))
          (omega (arith, c.if-count-new.false))
          (subst (P (get_or c.args.old.now c.loop-count.count old)) c.index-new-count.is
          (subst (λ x. P x new) c.index-old-count.is here))
          c.loop-count.invariant.common;
    }

pub returns-clause-common : goal.returns-clause-common
returns-clause-common g c =
    common_old_end (IsSameBefore (g.T.Placed.EndsBy c.args.start)) c.args.old.now c.args.new.now c.loop-count.count
    (omega (arith, c.loop-count-test.false)) c.loop-count.invariant.common
