use Rattle.js_process.proofs.Courses.{stays_open}
use Rattle.js_process.proofs.Pieces.{appends_more}
use Rattle.std.proofs.Common.{arith, rules}
use Rattle.std.proofs.lemmas.Grind.{common_steps}
use Rattle.js_process.proofs.write_all.write_bytes.Goals as goal

pub loop-at-preserved : goal.loop-at-preserved
loop-at-preserved g c =
    let before = c.loop-at.invariant.0 in
    let piece = c.in-Took.ensures.bytes in (
      appends_more _ _ _ c.args.text.now _ _ _ (grind (arith, common_steps)) before piece,
      search rules,
      search rules,
      λ is_open. stays_open _ _ (c.loop-at.invariant.3 is_open) c.in-Took.ensures.course,
    )
