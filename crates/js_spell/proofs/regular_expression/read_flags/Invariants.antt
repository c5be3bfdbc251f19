use Rattle.std.proofs.Common.{◌≡◌, length}
use Rattle.js_source.specs.Source.{rest}
use Rattle.js_spell.proofs.FlagSteps.{ReadsLetters}
use Rattle.js_spell.proofs.regular_expression.read_flags.Given as goal

-- Letters were read.
abbrev pub invariant-letters : goal.invariant-letters
invariant-letters l = record {
  reads : ReadsLetters l.fn.source l.source l.fn.errors l.errors l.flags l.flags_error;
  at : l.at ≡ l.source.place;
}

abbrev pub decreases-letters : goal.decreases-letters
decreases-letters l = length (rest l.source)
