use Rattle.std.proofs.Common.{take}
use Rattle.js_relex.proofs.LiveInPlace.{GoesBehind}
use Rattle.js_relex.proofs.gather.add_live_rows.Given as goal

-- So many rows were made live.
abbrev pub invariant-loop-row : goal.invariant-loop-row
invariant-loop-row l = GoesBehind l.initial.report (take l.row-index l.rows) l.report
