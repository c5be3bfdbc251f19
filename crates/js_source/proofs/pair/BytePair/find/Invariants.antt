use Rattle.std.proofs.Common.{◌-◌, length}
use Rattle.js_source.specs.Pairs.{PassesPairs}
use Rattle.js_source.proofs.pair.BytePair.find.Given as goal

abbrev pub invariant-loop-at : goal.invariant-loop-at
invariant-loop-at l = PassesPairs l.self l.four l.bytes l.fn.from l.at l.is_clean

abbrev pub decreases-loop-at : goal.decreases-loop-at
decreases-loop-at l = length l.bytes - l.at
