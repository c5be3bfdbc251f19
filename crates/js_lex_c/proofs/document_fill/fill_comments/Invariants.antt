use Rattle.std.proofs.Common.{◌≡◌, ◌≤◌, drop, length, map, take}
use Rattle.js_lex_c.specs.Records.{comment_record}
use Rattle.js_lex_c.specs.Filled.{filled}
use Rattle.js_lex_c.proofs.document_fill.fill_comments.Given as goal

-- The list is filled with so many, and the others are left.
abbrev pub invariant-loop-place : goal.invariant-loop-place
invariant-loop-place g l =
    (l.comments ≡ drop l.place l.initial.comments)
    × (l.room ≡ filled l.initial.room (map comment_record (take l.place l.initial.comments)))
    × (l.place ≤ length l.initial.comments)
