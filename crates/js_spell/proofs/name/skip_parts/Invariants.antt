use Rattle.std.proofs.Common.{◌≡◌, ◌≤◌, length}
use Rattle.js_text.specs.Characters.{from_first}
use Rattle.js_source.specs.Source.{rest}
use Rattle.js_grammar.specs.Name.{is_no_part}
use Rattle.js_spell.proofs.name.skip_parts.Given as goal

abbrev pub invariant-loop-c : goal.invariant-loop-c
invariant-loop-c l =
    (l.source.text ≡ l.fn.source.text)
    × (from_first is_no_part (rest l.source) ≡ from_first is_no_part (rest l.fn.source))
    × (l.fn.source.place ≤ l.source.place)

abbrev pub decreases-loop-c : goal.decreases-loop-c
decreases-loop-c l = length (rest l.source)
