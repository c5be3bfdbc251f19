use Rattle.std.proofs.Common.{◌++◌, ap, drop, ◌∙◌}
use Rattle.std.specs.List.{filter}
use Rattle.js_squeeze.specs.SqueezeText.{first_reads}
use Rattle.js_squeeze.proofs.SqueezedSoFar.{behind_rows, behind_tokens}
use Rattle.js_squeeze.proofs.squeezed_text.squeeze_text.Goals as goal
use Rattle.js_squeeze.proofs.squeezed_text.squeeze_text.Goals.{else-loop-row-test, then-loop-row-test+else-not-first_reads+in_default}

pub returns : goal.returns
returns c =
    let l = c.loop-row in
    let written = c.in_ok-push_str.ensures.ok ∙ ap (λ t. l.text ++ t) c.rest_behind.ensures in
    elim c.loop-row-test.branch [
      | else-loop-row-test w ↦ written
          ∙ behind_rows c.args.source.now l.text _ l.before c.args.rows.now l.row-index l.left.now w.loop-row-test.false
          l.invariant.0
      | then-loop-row-test+else-not-first_reads+in_default w ↦ written
          ∙ behind_tokens c.args.source.now l.text _ l.before (filter first_reads (drop l.row-index c.args.rows.now))
          l.left.now w.in_default.ensures.cases l.invariant.0
    ]
