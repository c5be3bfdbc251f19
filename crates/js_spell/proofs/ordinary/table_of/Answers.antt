use Rattle.std.proofs.Common.{refl, not}
use Rattle.js_spell.specs.declared.ordinary.Literal.TheVariants.{DoubleQuoted, SingleQuoted, Template}
use Rattle.js_spell.specs.Strings.{stops}
use Rattle.js_source.proofs.Classes.{tells_class}
use Rattle.js_spell.proofs.ordinary.table_of.Goals as goal

pub returns-in-DoubleQuoted : goal.returns-in-DoubleQuoted
returns-in-DoubleQuoted c = rw c.in-DoubleQuoted.is (tells_class (λ b. not (stops DoubleQuoted b)) _ refl refl)

pub returns-in-SingleQuoted : goal.returns-in-SingleQuoted
returns-in-SingleQuoted c = rw c.in-SingleQuoted.is (tells_class (λ b. not (stops SingleQuoted b)) _ refl refl)

pub returns-in-Template : goal.returns-in-Template
returns-in-Template c = rw c.in-Template.is (tells_class (λ b. not (stops Template b)) _ refl refl)
