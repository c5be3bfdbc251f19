-- The classes of ASCII characters that tables tell.
use Rattle.std.specs.Prelude.{ℕ, Bool, not, nat_lt, ◌==◌, ◌||◌, ◌&&◌}
use Rattle.js_text.specs.Ascii.{backslash, hyphen_minus, less_than_sign, slash}
use Rattle.js_text.specs.Characters.{is_identifier_start}

-- a name begins with the character, or with the escape that it begins
abbrev pub is_name_start : ℕ → Bool
is_name_start c = is_identifier_start c || (c == backslash)

-- TAB or SP: the white space in ASCII of which nothing is listed
abbrev pub is_blank : ℕ → Bool
is_blank b = (b == 0x09) || (b == 0x20)

-- above SP, and none of `-`, `/` and `<`: an ASCII character of these begins no piece of a gap
abbrev pub is_symbol : ℕ → Bool
is_symbol b = nat_lt 0x20 b && (not (b == hyphen_minus) && (not (b == slash) && not (b == less_than_sign)))
