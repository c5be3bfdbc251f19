use Rattle.std.proofs.Common.{◌≡◌, ◌≤◌, ◌+◌, ◌-◌, length, take}
use Rattle.js_relex.specs.LiveLists.{total_found}
use Rattle.js_relex.proofs.live.length_behind.Given as goal

-- The length with what the rows before found.
abbrev pub invariant-loop-index : goal.invariant-loop-index
invariant-loop-index l =
    (l.index ≤ length l.rows) × (l.length ≡ l.before + total_found l.list (take l.index l.rows))

abbrev pub decreases-loop-index : goal.decreases-loop-index
decreases-loop-index l = length l.rows - l.index
