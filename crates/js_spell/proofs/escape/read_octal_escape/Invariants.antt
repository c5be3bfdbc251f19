use Rattle.std.proofs.Common.{◌≤◌, [], ◌∷◌}
use Rattle.js_spell.specs.Escape.{TakesDigits}
use Rattle.js_spell.proofs.escape.read_octal_escape.Given as goal

-- So many digits were taken behind the first one.
abbrev pub invariant-digits : goal.invariant-digits
invariant-digits l = record {
  taken : TakesDigits 8 (l.fn.first ∷ []) l.initial.source l.source l.counter l.value;
  within : l.counter ≤ l.end;
}
