use Rattle.std.proofs.Common.{◌≡◌, ◌≤◌, length}
use Rattle.js_text.specs.Characters.{from_first}
use Rattle.js_source.specs.Source.{rest}
use Rattle.js_spell.specs.Goals.{ends_of}
use Rattle.js_spell.proofs.jsx.pass_text.Given as goal

-- Characters of the text were passed.
abbrev pub invariant-characters : goal.invariant-characters
invariant-characters l = record {
  text : l.source.text ≡ l.initial.source.text;
  left : from_first (ends_of l.fn.within) (rest l.initial.source) ≡ from_first (ends_of l.fn.within) (rest l.source);
  onward : l.initial.source.place ≤ l.source.place;
}

abbrev pub decreases-characters : goal.decreases-characters
decreases-characters l = length (rest l.source)
