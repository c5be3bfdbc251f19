use Rattle.std.proofs.Common.{◌-◌, arith, get_or, length, subst, sym}
use Rattle.js_document.specs.Changed.{IsSameBehind}
use Rattle.js_document.proofs.ChangeLemmas.{back_differs, back_more, back_new_end, back_old_end}
use Rattle.js_document.proofs.change.compared.same_behind.Goals as goal

pub returns-then-count-new-clause-common : goal.returns-then-count-new-clause-common
returns-then-count-new-clause-common g c =
    back_new_end (IsSameBehind (g.T.Placed.StartsFrom c.args.shift.now.from)
    (g.T.Placed.shifted c.args.shift.now.from c.args.shift.now.to))
    c.args.old.now c.args.new.now c.loop-count.count
    (omega (arith, c.if-count-new.true)) c.loop-count.invariant.common

pub returns-then-not-is_same_behind-clause-common : goal.returns-then-not-is_same_behind-clause-common
returns-then-not-is_same_behind-clause-common g c =
    let old = c.index-old-old.result in
    let new = c.index-new-new.result in
    let P = IsSameBehind (g.T.Placed.StartsFrom c.args.shift.now.from)
    (g.T.Placed.shifted c.args.shift.now.from c.args.shift.now.to) in
    back_differs P c.args.old.now c.args.new.now c.loop-count.count old new (omega (arith, c.loop-count-test.true))
    (omega (arith, c.if-count-new.false))
    (λ same.
    let here =
    subst (λ x. P x new) (sym c.index-old-old.is)
    (subst (P (get_or c.args.old.now (length c.args.old.now - 1 - c.loop-count.count) old)) (sym c.index-new-new.is) same) in
    let yes = c.is_same_behind.ensures.1 here in
    let no = c.if-not-is_same_behind.true in
    absurd (cc))
    c.loop-count.invariant.common

pub loop-count-preserved : goal.loop-count-preserved
loop-count-preserved g c =
    let old = c.index-old-old.result in
    let new = c.index-new-new.result in
    let P = IsSameBehind (g.T.Placed.StartsFrom c.args.shift.now.from)
    (g.T.Placed.shifted c.args.shift.now.from c.args.shift.now.to) in
    let here = c.is_same_behind.ensures.0 (let yes = c.if-not-is_same_behind.false in cc) in
    record {
      few_old = omega (arith, c.loop-count-test.true);
      few_new = omega (arith, c.if-count-new.false);
      common =
          back_more P c.args.old.now c.args.new.now c.loop-count.count old new (omega (arith, c.loop-count-test.true))
          (omega (arith, c.if-count-new.false))
          (subst (P (get_or c.args.old.now (length c.args.old.now - 1 - c.loop-count.count) old)) c.index-new-new.is
          (subst (λ x. P x new) c.index-old-old.is here))
          c.loop-count.invariant.common;
    }

pub returns-clause-common : goal.returns-clause-common
returns-clause-common g c =
    back_old_end (IsSameBehind (g.T.Placed.StartsFrom c.args.shift.now.from)
    (g.T.Placed.shifted c.args.shift.now.from c.args.shift.now.to))
    c.args.old.now c.args.new.now c.loop-count.count
    (omega (arith, c.loop-count-test.false)) c.loop-count.invariant.common
