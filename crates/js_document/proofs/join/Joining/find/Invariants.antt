use Rattle.std.proofs.Common.{◌-◌, ◌≤◌, length}
use Rattle.js_document.proofs.JoinLemmas.{NoneUntil}
use Rattle.js_document.proofs.join.Joining.find.Given as goal

-- No entry so far is joined.
abbrev pub invariant-loop-left : goal.invariant-loop-left
invariant-loop-left g l = record {
  from : l.at ≤ l.left;
  none : NoneUntil g.K.KeepGoals.knows g.K.KeepGoals.alike l.open l.self l.token l.state l.left;
}

abbrev pub decreases-loop-left : goal.decreases-loop-left
decreases-loop-left g l = length l.self.back - l.left
