use Rattle.std.proofs.Common.{◌≡◌, ◌≤◌, true, length}
use Rattle.js_text.specs.Characters.{is_line_terminator, from_first}
use Rattle.js_source.specs.Source.{rest}
use Rattle.js_spell.proofs.comment.skip_line.Given as goal

abbrev pub invariant-loop-c : goal.invariant-loop-c
invariant-loop-c l =
    (l.source.text ≡ l.fn.source.text)
    × (from_first is_line_terminator (rest l.source) ≡ from_first is_line_terminator (rest l.fn.source))
    × (l.fn.source.place ≤ l.source.place) × (l.is_plain ≡ true → l.source ≡ l.fn.source)

abbrev pub decreases-loop-c : goal.decreases-loop-c
decreases-loop-c l = length (rest l.source)
