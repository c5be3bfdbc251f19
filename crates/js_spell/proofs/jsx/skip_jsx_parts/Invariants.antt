use Rattle.std.proofs.Common.{◌≡◌, ◌≤◌, false, length}
use Rattle.js_text.specs.Characters.{begins, from_first, is_identifier_part}
use Rattle.js_source.specs.Source.{rest}
use Rattle.js_grammar.specs.Jsx.{ends_jsx_name}
use Rattle.js_spell.proofs.jsx.skip_jsx_parts.Given as goal

-- Parts of the name were passed, and no part of a name is next.
abbrev pub invariant-parts : goal.invariant-parts
invariant-parts l = record {
  text : l.source.text ≡ l.fn.source.text;
  left : from_first ends_jsx_name (rest l.fn.source) ≡ from_first ends_jsx_name (rest l.source);
  none : begins is_identifier_part (rest l.source) ≡ false;
  onward : l.fn.source.place ≤ l.source.place;
}

abbrev pub decreases-parts : goal.decreases-parts
decreases-parts l = length (rest l.source)
