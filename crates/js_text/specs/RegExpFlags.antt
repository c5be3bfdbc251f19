-- The flags of regular expressions.
use Rattle.std.specs.Prelude.{ℕ, ◌^◌, ◌==◌, List, Option, codes, position, option_map}
use Rattle.js_text.specs.declared.reg_exp_flags.RegExpFlags.{RegExpFlags}

-- the bits of a set of flags
abbrev pub flag_bits : RegExpFlags → ℕ
flag_bits flags = flags.0

-- the set of flags with these bits
abbrev pub flags_of_bits : ℕ → RegExpFlags
flags_of_bits bits = record { 0 = bits }

-- the letters of the flags, from that of bit 0 on
abbrev pub flag_letters : List ℕ
flag_letters = codes "gimsuydv"

-- the set with the flag of this letter alone
abbrev pub flag_of_letter : ℕ → Option RegExpFlags
flag_of_letter letter = option_map (λ bit. flags_of_bits (2 ^ bit)) (position (λ c. c == letter) flag_letters)
