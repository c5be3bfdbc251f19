use Rattle.std.proofs.Common.{◌-◌, length}
use Rattle.js_source.specs.Search.{PassesOthers}
use Rattle.js_source.proofs.four.FourBytes.find.Given as goal

abbrev pub invariant-loop-at : goal.invariant-loop-at
invariant-loop-at l = PassesOthers l.self l.bytes l.fn.from l.at

abbrev pub decreases-loop-at : goal.decreases-loop-at
decreases-loop-at l = length l.bytes - l.at
