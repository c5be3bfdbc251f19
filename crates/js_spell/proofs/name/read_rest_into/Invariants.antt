use Rattle.std.proofs.Common.{length, Bool}
use Rattle.std.specs.Prelude.{string_bytes}
use Rattle.js_source.specs.Source.{rest}
use Rattle.js_spell.specs.Name.{ReadsItems}
use Rattle.js_spell.specs.declared.name.Position.TheVariants.{Later}
use Rattle.js_spell.proofs.name.read_rest_into.Given as goal

-- Items were read, from the start on.
abbrev pub invariant-parts : goal.invariant-parts
invariant-parts l = record {
  has_escape : Bool;
  read : ReadsItems Later l.initial.source Later l.source l.initial.errors l.errors
      (string_bytes l.initial.decoded) (string_bytes l.decoded) has_escape;
}

abbrev pub decreases-parts : goal.decreases-parts
decreases-parts l = length (rest l.source)
