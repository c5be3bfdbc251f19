use Rattle.std.proofs.Common.{◌≡◌, ◌≤◌, drop, length, map, take}
use Rattle.js_lex_c.specs.DocumentRecords.{live_value_record}
use Rattle.js_lex_c.specs.Filled.{filled}
use Rattle.js_lex_c.proofs.document_fill.fill_values.Given as goal

-- The list is filled with so many, and the others are left.
abbrev pub invariant-loop-place : goal.invariant-loop-place
invariant-loop-place g l =
    (l.values ≡ drop l.place l.initial.values)
    × (l.room ≡ filled l.initial.room (map live_value_record (take l.place l.initial.values)))
    × (l.place ≤ length l.initial.values)
