use Rattle.std.proofs.Common.{◌≡◌, map, take}
use Rattle.js_lex_c.specs.Filled.{filled}
use Rattle.js_lex_c.specs.Records.{comment_record}
use Rattle.js_lex_c.proofs.record.fill_comments.Given as goal

-- The list is filled with so many.
abbrev pub invariant-loop-place : goal.invariant-loop-place
invariant-loop-place l = l.room ≡ filled l.initial.room (map comment_record (take l.place l.comments))
