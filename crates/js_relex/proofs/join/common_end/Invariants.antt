use Rattle.std.proofs.Common.{length, ◌-◌}
use Rattle.js_relex.proofs.EndLemmas.{EndsAlike}
use Rattle.js_relex.proofs.join.common_end.Given as goal

-- So many commands at the end are the same.
abbrev pub invariant-loop-common : goal.invariant-loop-common
invariant-loop-common l = EndsAlike l.old l.new l.common

abbrev pub decreases-loop-common : goal.decreases-loop-common
decreases-loop-common l = length l.old - l.common
