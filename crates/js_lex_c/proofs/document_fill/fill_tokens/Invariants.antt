use Rattle.std.proofs.Common.{◌≡◌, ◌≤◌, drop, length, map, take}
use Rattle.js_lex_c.specs.DocumentRecords.{live_token_record}
use Rattle.js_lex_c.specs.Filled.{filled}
use Rattle.js_lex_c.proofs.document_fill.fill_tokens.Given as goal

-- The list is filled with so many, and the others are left.
abbrev pub invariant-loop-place : goal.invariant-loop-place
invariant-loop-place g l =
    (l.tokens ≡ drop l.place l.initial.tokens)
    × (l.room ≡ filled l.initial.room (map live_token_record (take l.place l.initial.tokens)))
    × (l.place ≤ length l.initial.tokens)
