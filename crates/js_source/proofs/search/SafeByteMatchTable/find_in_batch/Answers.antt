use Rattle.std.proofs.Common.{◌+◌, sym, ◌∙◌, arith}
use Rattle.js_source.proofs.Stops.{passed_one}
use Rattle.js_source.proofs.search.SafeByteMatchTable.find_in_batch.Goals as goal

pub loop-i-preserved : goal.loop-i-preserved
loop-i-preserved c =
    passed_one _ _ _ (c.args.from + c.loop-i.i) (c.args.from + (c.loop-i.i + 1)) c.loop-i.invariant (omega arith)
    (omega (arith, c.requires, c.loop-i-test.true)) (sym c.matches.ensures.byte ∙ c.if-matches.false)
