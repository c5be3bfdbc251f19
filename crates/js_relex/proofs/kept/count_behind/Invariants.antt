use Rattle.std.proofs.Common.{◌-◌, ◌≤◌, length, List, map, Some}
use Rattle.js_session.specs.declared.row.Row.{Row}
use Rattle.js_relex.specs.Outlines.{AreOutlined}
use Rattle.js_relex.proofs.KeptLemmas.{KeptFrom}
use Rattle.js_relex.proofs.kept.count_behind.Given as goal

-- So many rows of these outlines stay, and what is kept behind them is kept behind the first one.
abbrev pub invariant-loop-kept : goal.invariant-loop-kept
invariant-loop-kept l =
    (l.kept ≤ length l.outlines)
    × ((rows : List Row) → AreOutlined (map Some l.old_commands) l.outlines rows
    → KeptFrom l.start rows l.commands l.kept) × (l.kept ≤ length l.commands)

abbrev pub decreases-loop-kept : goal.decreases-loop-kept
decreases-loop-kept l = length l.outlines - l.kept
