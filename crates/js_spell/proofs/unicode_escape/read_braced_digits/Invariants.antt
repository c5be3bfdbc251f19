use Rattle.std.proofs.Common.{◌≤◌, length}
use Rattle.js_source.specs.Source.{rest}
use Rattle.js_grammar.specs.UnicodeEscape.{last_code_point}
use Rattle.js_spell.specs.Escape.{TakesCodePoint}
use Rattle.js_spell.proofs.unicode_escape.read_braced_digits.Given as goal

-- Digits were taken, whose number may still be a code point.
abbrev pub invariant-digits : goal.invariant-digits
invariant-digits l = record {
  taken : TakesCodePoint l.fn.source l.source l.value;
  small : l.value ≤ last_code_point;
}

abbrev pub decreases-digits : goal.decreases-digits
decreases-digits l = length (rest l.source)
