use Rattle.std.proofs.Common.{◌≡◌, take}
use Rattle.js_document.specs.Gap.{rows_of}
use Rattle.js_document.specs.Reading.{with_rows}
use Rattle.js_document.proofs.change.add_read.Given as goal

-- The tokens of the rows so far were made live.
abbrev pub invariant-loop-entry : goal.invariant-loop-entry
invariant-loop-entry g l = l.tokens ≡ with_rows l.initial.tokens (rows_of (take l.entry-index l.entries))
