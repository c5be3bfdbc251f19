use Rattle.std.proofs.Common.{◌-◌, ◌≤◌, length}
use Rattle.std.specs.Prelude.{reverse}
use Rattle.js_document.specs.Changed.{IsSameBehind}
use Rattle.js_document.proofs.ChangeLemmas.{HaveInCommon}
use Rattle.js_document.proofs.change.compared.same_behind.Given as goal

-- So many items at the end are the same.
abbrev pub invariant-loop-count : goal.invariant-loop-count
invariant-loop-count g l = record {
  few_old : l.count ≤ length l.old;
  few_new : l.count ≤ length l.new;
  common : HaveInCommon (IsSameBehind (g.T.Placed.StartsFrom l.shift.from) (g.T.Placed.shifted l.shift.from l.shift.to)) (reverse l.old)
      (reverse l.new) l.count;
}

abbrev pub decreases-loop-count : goal.decreases-loop-count
decreases-loop-count g l = length l.old - l.count
