use Rattle.std.proofs.Common.{◌+◌, ◌-◌, ◌<◌, ◌≤◌, length, take}
use Rattle.js_document.specs.Gap.{count_tokens, rows_of}
use Rattle.js_document.proofs.blocks.RowBlocks.row_of_token.Given as goal

-- The token begins with one of the rows from the first one on, up to the other one.
abbrev pub invariant-loop-row : goal.invariant-loop-row
invariant-loop-row g l = record {
  ordered : l.row ≤ l.end;
  few : l.end ≤ length l.self;
  before : count_tokens (take l.row (rows_of l.self)) ≤ l.index;
  next : l.end < length l.self → l.index < count_tokens (take (l.end + 1) (rows_of l.self));
}

abbrev pub decreases-loop-row : goal.decreases-loop-row
decreases-loop-row g l = l.end - l.row
