use Rattle.std.proofs.Common.{◌≡◌, ◌+◌, length}
use Rattle.js_lex_c.proofs.document_fill.count_found.Given as goal

-- Those that were counted and those that are left are all.
abbrev pub invariant-loop-count : goal.invariant-loop-count
invariant-loop-count g l = l.count + length l.found ≡ length l.initial.found
