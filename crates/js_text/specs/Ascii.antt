-- The ASCII characters that definitions and contracts name, by their names in Unicode.
use Rattle.std.specs.Prelude.{ℕ}

abbrev pub line_feed : ℕ
line_feed = 0x0A

abbrev pub carriage_return : ℕ
carriage_return = 0x0D

abbrev pub exclamation_mark : ℕ
exclamation_mark = 0x21

abbrev pub quotation_mark : ℕ
quotation_mark = 0x22

abbrev pub number_sign : ℕ
number_sign = 0x23

abbrev pub dollar_sign : ℕ
dollar_sign = 0x24

abbrev pub percent_sign : ℕ
percent_sign = 0x25

abbrev pub ampersand : ℕ
ampersand = 0x26

abbrev pub apostrophe : ℕ
apostrophe = 0x27

abbrev pub asterisk : ℕ
asterisk = 0x2A

abbrev pub plus_sign : ℕ
plus_sign = 0x2B

abbrev pub hyphen_minus : ℕ
hyphen_minus = 0x2D

abbrev pub full_stop : ℕ
full_stop = 0x2E

abbrev pub slash : ℕ
slash = 0x2F

abbrev pub less_than_sign : ℕ
less_than_sign = 0x3C

abbrev pub equals_sign : ℕ
equals_sign = 0x3D

abbrev pub greater_than_sign : ℕ
greater_than_sign = 0x3E

abbrev pub question_mark : ℕ
question_mark = 0x3F

abbrev pub backslash : ℕ
backslash = 0x5C

abbrev pub circumflex_accent : ℕ
circumflex_accent = 0x5E

abbrev pub low_line : ℕ
low_line = 0x5F

abbrev pub grave_accent : ℕ
grave_accent = 0x60

abbrev pub vertical_line : ℕ
vertical_line = 0x7C
