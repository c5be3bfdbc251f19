use Rattle.std.proofs.Common.{◌≡◌, ◌≤◌, length}
use Rattle.js_text.specs.Characters.{from_first}
use Rattle.js_grammar.specs.Jsx.{ends_jsx_text}
use Rattle.js_source.specs.Source.{rest}
use Rattle.js_spell.proofs.ChildSteps.{WarnsUpTo}
use Rattle.js_spell.proofs.jsx.pass_child.Given as goal

-- A part of the text was passed, and warned of.
abbrev pub invariant-angles : goal.invariant-angles
invariant-angles l = record {
  text : l.source.text ≡ l.fn.source.text;
  left : from_first ends_jsx_text (rest l.fn.source) ≡ from_first ends_jsx_text (rest l.source);
  warned : WarnsUpTo l.fn.source l.source l.fn.warnings l.warnings;
  onward : l.fn.source.place ≤ l.source.place;
}

abbrev pub decreases-angles : goal.decreases-angles
decreases-angles l = length (rest l.source)
