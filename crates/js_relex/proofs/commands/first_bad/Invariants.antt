use Rattle.std.proofs.Common.{◌≡◌, ◌≤◌, ◌-◌, true, length, take}
use Rattle.std.specs.List.{list_all}
use Rattle.js_session.specs.Effects.{is_lasting}
use Rattle.js_relex.proofs.commands.first_bad.Given as goal

-- A document may be given so many commands.
abbrev pub invariant-loop-index : goal.invariant-loop-index
invariant-loop-index l = (l.index ≤ length l.commands) × (list_all is_lasting (take l.index l.commands) ≡ true)

abbrev pub decreases-loop-index : goal.decreases-loop-index
decreases-loop-index l = length l.commands - l.index
