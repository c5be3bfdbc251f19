use Rattle.std.proofs.Common.{refl, not}
use Rattle.js_text.specs.Characters.{is_line_terminator}
use Rattle.js_spell.specs.declared.regular_expression.Within.TheVariants.{Body, Class}
use Rattle.js_spell.specs.RegularExpression.{marks}
use Rattle.js_source.proofs.Classes.{tells_class}
use Rattle.js_spell.proofs.regular_expression.table_of.Goals as goal

pub returns-in-Body : goal.returns-in-Body
unfolding is_line_terminator
returns-in-Body c = rw c.in-Body.is (tells_class (λ b. not (marks Body b)) _ refl refl)

pub returns-in-Class : goal.returns-in-Class
unfolding is_line_terminator
returns-in-Class c = rw c.in-Class.is (tells_class (λ b. not (marks Class b)) _ refl refl)
