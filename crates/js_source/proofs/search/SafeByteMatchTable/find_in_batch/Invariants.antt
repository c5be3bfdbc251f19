use Rattle.std.proofs.Common.{◌+◌}
use Rattle.js_source.proofs.Stops.{Passed}
use Rattle.js_source.proofs.search.SafeByteMatchTable.find_in_batch.Given as goal

abbrev pub invariant-loop-i : goal.invariant-loop-i
invariant-loop-i l = Passed l.self l.bytes l.fn.from (l.fn.from + l.i)
