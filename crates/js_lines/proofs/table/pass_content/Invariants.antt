use Rattle.std.proofs.Common.{◌≡◌, length}
use Rattle.js_source.specs.Source.{rest}
use Rattle.js_lines.proofs.ContentLemmas.{PassesContent}
use Rattle.js_lines.proofs.table.pass_content.Given as goal

-- What was passed is content of the line.
abbrev pub invariant-loop-c : goal.invariant-loop-c
invariant-loop-c l =
    (l.source.text ≡ l.fn.source.text) × PassesContent l.ends (rest l.fn.source) (rest l.source)

abbrev pub decreases-loop-c : goal.decreases-loop-c
decreases-loop-c l = length (rest l.source)
