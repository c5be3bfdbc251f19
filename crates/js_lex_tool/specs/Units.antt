-- Characters and UTF-16 units, as a report prints them.
use Rattle.std.specs.Prelude.{ℕ, ◌-◌, ◌^◌, Bool, true, false, ◌&&◌, ◌==◌, not, nat_le, cond, List, [], ◌∷◌, ◌++◌, codes}
use Rattle.std.specs.Char.Escape.{encode_utf16}
use Rattle.std.specs.Fmt.{digits, padded_integral, format_spec}
use Rattle.std.specs.List.{flat_map}
use Rattle.std.specs.Str.{chars}

-- a number in base 16, in upper or lower case, filled up with zeros to four digits
abbrev pub four_digits : Bool → ℕ → List ℕ
four_digits upper n = padded_integral (format_spec 32 0 4 4 (2 ^ 64 - 1)) false [] (digits 16 upper n)

-- a unit that stands for itself: from a space to `~`, but for `\`
abbrev pub is_printed_as_itself : ℕ → Bool
is_printed_as_itself u = nat_le 32 u && nat_le u 126 && not (u == 92)

-- a unit of a value: itself, or an escape
abbrev pub unit_text : ℕ → List ℕ
unit_text u = cond (is_printed_as_itself u) (u ∷ []) (codes "\\u" ++ four_digits false u)

-- the units of a text
abbrev pub all_units_text : List ℕ → List ℕ
all_units_text units = flat_map unit_text units

-- the one or two units of a character
abbrev pub units_text : ℕ → List ℕ
units_text c = all_units_text (encode_utf16 c)

-- the units of a text, from its bytes
abbrev pub text_in_units : List ℕ → List ℕ
text_in_units text = flat_map units_text (chars text)

-- a character by its number
abbrev pub number_text : ℕ → List ℕ
number_text c = codes " U+" ++ four_digits true c
