-- Texts as strings of JSON.
use Rattle.std.specs.Prelude.{ℕ, ◌-◌, ◌^◌, Bool, false, not, ◌&&◌, ◌==◌, nat_le, List, [], ◌∷◌, ◌++◌, codes}
use Rattle.std.specs.Prelude.{if◌then◌else◌}
use Rattle.std.specs.Char.Escape.{encode_utf16}
use Rattle.std.specs.Fmt.{digits, padded_integral, format_spec}
use Rattle.std.specs.List.{flat_map}

-- a number in base 16, filled up with zeros to four digits
abbrev pub four_digits : ℕ → List ℕ
four_digits n = padded_integral (format_spec 32 0 4 4 (2 ^ 64 - 1)) false [] (digits 16 false n)

-- a UTF-16 unit that stands for itself in a string of JSON: one of ASCII from a space to `~`, but for `"` and `\`
abbrev pub is_json_itself : ℕ → Bool
is_json_itself u = nat_le 32 u && nat_le u 126 && not (u == 34) && not (u == 92)

-- a UTF-16 unit in a string of JSON: itself, or an escape; so a surrogate can stand alone
abbrev pub json_unit : ℕ → List ℕ
json_unit u = if is_json_itself u then u ∷ [] else codes "\\u" ++ four_digits u

-- UTF-16 units as a string of JSON
abbrev pub json_string : List ℕ → List ℕ
json_string units = codes "\"" ++ flat_map json_unit units ++ codes "\""

-- the UTF-16 units of a character in a string of JSON
abbrev pub json_character : ℕ → List ℕ
json_character c = flat_map json_unit (encode_utf16 c)

-- characters as a string of JSON
abbrev pub json_text : List ℕ → List ℕ
json_text cs = codes "\"" ++ flat_map json_character cs ++ codes "\""
