use Rattle.std.proofs.Common.{◌≡◌, ℕ, List, ◌++◌, ◌≤◌, length}
use Rattle.js_text.specs.Characters.{before_first}
use Rattle.js_source.specs.Source.{rest}
use Rattle.js_grammar.specs.NumberReads.{is_no_start}
use Rattle.js_spell.proofs.numeric.skip_starts.Given as goal

-- What is passed from here on is passed from the start on.
abbrev pub invariant-starts : goal.invariant-starts
invariant-starts l = record {
  text : l.source.text ≡ l.initial.source.text;
  passed : (left : List ℕ) → rest l.source ≡ before_first is_no_start (rest l.source) ++ left
      → rest l.initial.source ≡ before_first is_no_start (rest l.initial.source) ++ left;
  onward : l.initial.source.place ≤ l.source.place;
}

abbrev pub decreases-starts : goal.decreases-starts
decreases-starts l = length (rest l.source)
