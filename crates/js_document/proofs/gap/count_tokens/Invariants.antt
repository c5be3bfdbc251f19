use Rattle.std.proofs.Common.{◌≡◌, ◌≤◌, take}
use Rattle.js_document.specs.Gap.{count_tokens, rows_of}
use Rattle.js_document.proofs.gap.count_tokens.Given as goal

-- So many live tokens there are with those before.
abbrev pub invariant-loop-entry : goal.invariant-loop-entry
invariant-loop-entry g l = (l.count ≡ count_tokens (rows_of (take l.entry-index l.rows))) × (l.count ≤ l.entry-index)
