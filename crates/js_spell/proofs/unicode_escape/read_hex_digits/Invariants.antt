use Rattle.std.proofs.Common.{◌≤◌, []}
use Rattle.js_spell.specs.Escape.{TakesDigits}
use Rattle.js_spell.proofs.unicode_escape.read_hex_digits.Given as goal

-- So many digits were taken.
abbrev pub invariant-digits : goal.invariant-digits
invariant-digits l = record {
  taken : TakesDigits 16 [] l.initial.source l.source l.counter l.value;
  within : l.counter ≤ l.count;
}
