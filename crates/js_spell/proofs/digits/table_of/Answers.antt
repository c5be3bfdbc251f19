use Rattle.std.proofs.Common.{refl}
use Rattle.js_kind.specs.Digits.{is_digit_of}
use Rattle.js_source.proofs.Classes.{tells_class}
use Rattle.js_spell.proofs.digits.table_of.Goals as goal

pub returns-in-Binary : goal.returns-in-Binary
unfolding is_digit_of
returns-in-Binary c = rw c.in-Binary.is (tells_class (is_digit_of 2) _ refl refl)

pub returns-in-Octal : goal.returns-in-Octal
unfolding is_digit_of
returns-in-Octal c = rw c.in-Octal.is (tells_class (is_digit_of 8) _ refl refl)

pub returns-in-Decimal : goal.returns-in-Decimal
unfolding is_digit_of
returns-in-Decimal c = rw c.in-Decimal.is (tells_class (is_digit_of 10) _ refl refl)

pub returns-in-Hex : goal.returns-in-Hex
unfolding is_digit_of
returns-in-Hex c = rw c.in-Hex.is (tells_class (is_digit_of 16) _ refl refl)
