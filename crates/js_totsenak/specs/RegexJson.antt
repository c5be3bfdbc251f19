-- Regular expressions as members of objects of JSON.
use Rattle.std.specs.Prelude.{ℕ, false, List, [], ◌∷◌, ◌++◌, codes, Option, Some, None, if◌then◌else◌}
use Rattle.std.specs.List.{flat_map}
use Rattle.std.specs.Option.{option_map_or}
use Rattle.js_grammar.specs.RegularExpression.{has_flag}
use Rattle.js_text.specs.RegExpFlags.{flag_of_letter}
use Rattle.js_text.specs.declared.reg_exp_flags.RegExpFlags.{RegExpFlags}
use Rattle.js_text.specs.declared.reg_exp_flags.RegexInfo.{RegexInfo}
use Rattle.js_totsenak.specs.Members.{flag_member, member_head, number_member}

-- the letter of a flag, where the flag is in the set
abbrev pub flag_letter : RegExpFlags → ℕ → List ℕ
flag_letter flags c = if option_map_or (has_flag flags) (flag_of_letter c) false then c ∷ [] else []

-- the letters of the flags in the set, in the order of the alphabet
unfoldable pub flags_member : RegExpFlags → List ℕ
flags_member flags =
    member_head (codes "flags") ++ codes "\"" ++ flat_map (flag_letter flags) (codes "dgimsuvy") ++ codes "\""

-- the flags, and whether one is unknown or stands twice
unfoldable pub all_flags : RegexInfo → List ℕ
all_flags info = flags_member info.flags ++ flag_member (codes "flags_error") info.flags_error

-- of a regular expression the offset at which its pattern ends, and its flags
abbrev pub regex_members : Option RegexInfo → List ℕ
regex_members None = []
regex_members (Some info) = number_member (codes "pattern_end") info.pattern_end ++ all_flags info
