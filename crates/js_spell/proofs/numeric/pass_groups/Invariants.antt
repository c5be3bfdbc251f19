use Rattle.std.proofs.Common.{length}
use Rattle.js_source.specs.Source.{rest}
use Rattle.js_spell.specs.Numeric.{PassesGroups, radix_of_digits}
use Rattle.js_spell.specs.declared.numeric.Passed.TheVariants.{Separator}
use Rattle.js_spell.proofs.numeric.pass_groups.Given as goal

-- The groups so far were passed, each with a separator behind it.
abbrev pub invariant-groups : goal.invariant-groups
invariant-groups l =
    PassesGroups (radix_of_digits l.digits) l.initial.source Separator l.source l.initial.has_separator l.has_separator

abbrev pub decreases-groups : goal.decreases-groups
decreases-groups l = length (rest l.source)
