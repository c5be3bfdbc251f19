use Rattle.std.proofs.Common.{true}
use Rattle.js_spell.specs.Numeric.{radix_of_digits}
use Rattle.js_spell.specs.declared.numeric.Passed.TheVariants.{Separator}
use Rattle.js_spell.proofs.NumericSteps.{groups_go_on, flag_set}
use Rattle.js_spell.proofs.numeric.pass_groups.Goals as goal

pub groups-preserved : goal.groups-preserved
groups-preserved c =
    groups_go_on (radix_of_digits c.args.digits) c.args.source.now c.groups.source c.pass_digits.new.source Separator
    c.args.has_separator.now c.groups.has_separator true c.groups.invariant c.in-Separator.ensures
    (flag_set c.groups.has_separator)
