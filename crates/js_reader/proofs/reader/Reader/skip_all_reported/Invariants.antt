use Rattle.std.proofs.Common.{length}
use Rattle.js_source.specs.Source.{rest}
use Rattle.js_reader.proofs.WholeSteps.{SkipsSoFar}
use Rattle.js_reader.proofs.reader.Reader.skip_all_reported.Given as goal

abbrev pub invariant-loop : goal.invariant-loop
invariant-loop l = SkipsSoFar l.fn.self l.fn.found l.self l.found

abbrev pub decreases-loop : goal.decreases-loop
decreases-loop l = length (rest l.self.source)
