use Rattle.std.proofs.Common.{◌-◌, ◌≤◌, length}
use Rattle.js_document.specs.Changed.{IsSameBefore}
use Rattle.js_document.proofs.ChangeLemmas.{HaveInCommon}
use Rattle.js_document.proofs.change.compared.same_before.Given as goal

-- So many items at the front are the same.
abbrev pub invariant-loop-count : goal.invariant-loop-count
invariant-loop-count g l = record {
  few_old : l.count ≤ length l.old;
  few_new : l.count ≤ length l.new;
  common : HaveInCommon (IsSameBefore (g.T.Placed.EndsBy l.start)) l.old l.new l.count;
}

abbrev pub decreases-loop-count : goal.decreases-loop-count
decreases-loop-count g l = length l.old - l.count
