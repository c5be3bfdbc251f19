use Rattle.std.proofs.Common.{◌≡◌, ◌≤◌, take}
use Rattle.js_relex.specs.LiveLists.{count_readings}
use Rattle.js_relex.proofs.live.count_readings.Given as goal

-- So many of those before read.
abbrev pub invariant-loop-command : goal.invariant-loop-command
invariant-loop-command l =
    (l.count ≡ count_readings (take l.command-index l.commands)) × (l.count ≤ l.command-index)
