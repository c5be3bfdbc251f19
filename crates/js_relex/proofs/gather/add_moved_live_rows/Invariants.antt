use Rattle.std.proofs.Common.{map, take}
use Rattle.js_session.specs.Shifted.{shifted_row}
use Rattle.js_relex.proofs.LiveInPlace.{GoesBehind}
use Rattle.js_relex.proofs.gather.add_moved_live_rows.Given as goal

-- So many rows were made live, moved.
abbrev pub invariant-loop-row : goal.invariant-loop-row
invariant-loop-row l =
    GoesBehind l.initial.report (map (shifted_row l.shift.from l.shift.to) (take l.row-index l.rows)) l.report
