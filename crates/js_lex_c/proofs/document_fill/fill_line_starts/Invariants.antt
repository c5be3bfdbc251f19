use Rattle.std.proofs.Common.{◌≡◌, ◌+◌, ◌-◌, ◌≤◌, drop, length, take}
use Rattle.js_lex_c.specs.Filled.{filled}
use Rattle.js_lex_c.proofs.document_fill.fill_line_starts.Given as goal

-- The list is filled with so many, and the line is the next one.
abbrev pub invariant-loop-place : goal.invariant-loop-place
invariant-loop-place l =
    (l.line ≡ l.initial.from + l.place)
    × (l.room ≡ filled l.initial.room (take l.place (drop l.initial.from l.initial.lines.starts)))
    × (l.place ≤ length (drop l.initial.from l.initial.lines.starts))

abbrev pub decreases-loop-place : goal.decreases-loop-place
decreases-loop-place l = length l.initial.room - l.place
