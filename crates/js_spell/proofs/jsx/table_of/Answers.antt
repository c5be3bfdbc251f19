use Rattle.std.proofs.Common.{refl, not}
use Rattle.js_spell.specs.declared.jsx.Text.TheVariants.{Child, DoubleQuoted, SingleQuoted}
use Rattle.js_spell.specs.Goals.{ends_of}
use Rattle.js_source.proofs.Classes.{tells_class}
use Rattle.js_spell.proofs.jsx.table_of.Goals as goal

pub returns-in-Child : goal.returns-in-Child
returns-in-Child c = rw c.in-Child.is (tells_class (λ b. not (ends_of Child b)) _ refl refl)

pub returns-in-DoubleQuoted : goal.returns-in-DoubleQuoted
returns-in-DoubleQuoted c = rw c.in-DoubleQuoted.is (tells_class (λ b. not (ends_of DoubleQuoted b)) _ refl refl)

pub returns-in-SingleQuoted : goal.returns-in-SingleQuoted
returns-in-SingleQuoted c = rw c.in-SingleQuoted.is (tells_class (λ b. not (ends_of SingleQuoted b)) _ refl refl)
