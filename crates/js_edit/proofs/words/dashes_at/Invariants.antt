use Rattle.std.proofs.Common.{◌≡◌, ◌+◌, ◌-◌, ◌≤◌, length}
use Rattle.js_edit.proofs.Dashes.{from_word}
use Rattle.js_edit.proofs.words.dashes_at.Given as goal

-- None of so many words is `--`.
abbrev pub invariant-loop-at : goal.invariant-loop-at
invariant-loop-at l = (l.at ≤ length l.words) × (from_word l.words 0 ≡ l.at + from_word l.words l.at)

abbrev pub decreases-loop-at : goal.decreases-loop-at
decreases-loop-at l = length l.words - l.at
