use Rattle.std.proofs.Common.{arith, drop}
use Rattle.std.proofs.lemmas.List.{length-drop}
use Rattle.js_session.proofs.PlaceLemmas.{needed_within}
use Rattle.js_session.proofs.lex.marks_needed.Goals as goal

pub needed_before-needed-requires : goal.needed_before-needed-requires
needed_before-needed-requires c =
    omega (
      arith,
      c.loop-index.invariant,
      needed_within (drop c.loop-index.index c.args.commands.now),
      length-drop c.loop-index.index c.args.commands.now,
      c.loop-index.auto.index,
      c.loop-index-test.true,
    )
