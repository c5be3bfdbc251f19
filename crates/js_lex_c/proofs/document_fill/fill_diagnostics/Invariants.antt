use Rattle.std.proofs.Common.{◌≡◌, ◌≤◌, drop, length, map, take}
use Rattle.js_lex_c.specs.Records.{diagnostic_record}
use Rattle.js_lex_c.specs.Filled.{filled}
use Rattle.js_lex_c.proofs.document_fill.fill_diagnostics.Given as goal

-- The list is filled with so many, and the others are left.
abbrev pub invariant-loop-place : goal.invariant-loop-place
invariant-loop-place g l =
    (l.diagnostics ≡ drop l.place l.initial.diagnostics)
    × (l.room ≡ filled l.initial.room (map diagnostic_record (take l.place l.initial.diagnostics)))
    × (l.place ≤ length l.initial.diagnostics)
