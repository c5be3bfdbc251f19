-- Values of integers, one by one: the definitions compute to what stands here.
use Rattle.std.proofs.Common.{◌≡◌, ℕ, ◌-◌, ◌^◌, true, false, Bool, List, ◌++◌, replicate, refl}
use Rattle.std.specs.Prelude.{codes}
use Rattle.js_kind.specs.Digits.{is_digit_of}
use Rattle.js_kind.specs.declared.kind.Kind.{Kind}
use Rattle.js_kind.specs.declared.kind.Kind.TheVariants.{Decimal, Binary, Octal, Hex}
use Rattle.js_spell.specs.Integer.{IsInteger, integer_digits, integer_value}

-- the text is an integer, and has this value
abbrev HasValue : List ℕ → Kind → Bool → ℕ → Type 0
HasValue text kind has_separators value = IsInteger text kind has_separators × (integer_value kind text ≡ value)

with_separators :
    HasValue (codes "1_000_000") Decimal true 1000000
    × HasValue (codes "0xFF_AA_11") Hex true 16755217
    × HasValue (codes "0o1_0000__0000") Octal true 16777216
    × HasValue (codes "1___000_000") Decimal true 1000000
    × HasValue (codes "1_") Decimal true 1
    × HasValue (codes "_1") Decimal true 1
    × HasValue (codes "0b1_") Binary true 1
    × HasValue (codes "0o1_") Octal true 1
    × HasValue (codes "0x1_") Hex true 1
    × HasValue (codes "0b_0") Binary true 0
    × HasValue (codes "0o_0") Octal true 0
    × HasValue (codes "0x_0") Hex true 0
    × HasValue (codes "0b1_0000__0000") Binary true 256
    × HasValue (codes "0o77_73_72") Octal true 261882
    × HasValue (codes "0xdead_beef") Hex true 3735928559
unfolding is_digit_of
with_separators = (
  (record { prefix = refl; digits = refl; some_digit = refl }, refl),
  (record { prefix = refl; digits = refl; some_digit = refl }, refl),
  (record { prefix = refl; digits = refl; some_digit = refl }, refl),
  (record { prefix = refl; digits = refl; some_digit = refl }, refl),
  (record { prefix = refl; digits = refl; some_digit = refl }, refl),
  (record { prefix = refl; digits = refl; some_digit = refl }, refl),
  (record { prefix = refl; digits = refl; some_digit = refl }, refl),
  (record { prefix = refl; digits = refl; some_digit = refl }, refl),
  (record { prefix = refl; digits = refl; some_digit = refl }, refl),
  (record { prefix = refl; digits = refl; some_digit = refl }, refl),
  (record { prefix = refl; digits = refl; some_digit = refl }, refl),
  (record { prefix = refl; digits = refl; some_digit = refl }, refl),
  (record { prefix = refl; digits = refl; some_digit = refl }, refl),
  (record { prefix = refl; digits = refl; some_digit = refl }, refl),
  (record { prefix = refl; digits = refl; some_digit = refl }, refl),
)

without_separators :
    HasValue (codes "18446744073709551616") Decimal false (2 ^ 64)
    × HasValue (codes "340282366920938463463374607431768211455") Decimal false (2 ^ 128 - 1)
    × HasValue (codes "340282366920938463463374607431768211456") Decimal false (2 ^ 128)
    × HasValue (codes "0X0") Hex false 0
    × HasValue (codes "0o777") Octal false 511
    × HasValue (codes "0777") Octal false 511
    × HasValue (codes "0x10000000000000000") Hex false (2 ^ 64)
    × HasValue (replicate 60 48 ++ codes "1") Decimal false 1
unfolding is_digit_of
without_separators = (
  (record { prefix = refl; digits = refl; some_digit = refl }, refl),
  (record { prefix = refl; digits = refl; some_digit = refl }, refl),
  (record { prefix = refl; digits = refl; some_digit = refl }, refl),
  (record { prefix = refl; digits = refl; some_digit = refl }, refl),
  (record { prefix = refl; digits = refl; some_digit = refl }, refl),
  (record { prefix = refl; digits = refl; some_digit = refl }, refl),
  (record { prefix = refl; digits = refl; some_digit = refl }, refl),
  (record { prefix = refl; digits = refl; some_digit = refl }, refl),
)

digits : integer_digits Hex (codes "0xFF_AA") ≡ codes "FFAA"
digits = refl
