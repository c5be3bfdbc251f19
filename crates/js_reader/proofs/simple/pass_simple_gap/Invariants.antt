use Rattle.std.proofs.Common.{length}
use Rattle.js_source.specs.Source.{rest}
use Rattle.js_reader.specs.Simple.{PassesPieces}
use Rattle.js_reader.proofs.simple.pass_simple_gap.Given as goal

abbrev pub invariant-loop-next : goal.invariant-loop-next
invariant-loop-next l = PassesPieces l.fn.source l.fn.line_has_ended l.source l.line_has_ended

abbrev pub decreases-loop-next : goal.decreases-loop-next
decreases-loop-next l = length (rest l.source)
