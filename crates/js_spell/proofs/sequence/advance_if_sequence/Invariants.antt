use Rattle.std.proofs.Common.{◌≡◌, ◌≤◌, ◌++◌, take}
use Rattle.js_source.specs.Source.{rest}
use Rattle.js_spell.proofs.sequence.advance_if_sequence.Given as goal

abbrev pub invariant-loop-b : goal.invariant-loop-b
invariant-loop-b l =
    (l.behind.text ≡ l.fn.source.text) × (rest l.fn.source ≡ take l.b-index l.sequence ++ rest l.behind)
    × (l.fn.source.place ≤ l.behind.place)
