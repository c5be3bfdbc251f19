-- Regular expressions (ECMA-262 12.9.5): their parts, and what is read of one, good or at fault.
use Rattle.std.specs.Prelude.{ℕ, zero, suc, ◌+◌, Bool, true, false, List, [], ◌∷◌, ◌++◌, length, drop, ◌==◌, ◌&&◌}
use Rattle.std.specs.Prelude.{not, nat_lt, Option, Some, None, if◌then◌else◌}
use Rattle.std.specs.Int.RustNames.{bit_and, bit_or}
use Rattle.std.specs.Option.{option_map_or}
use Rattle.js_text.specs.Ascii.{backslash, slash}
use Rattle.js_text.specs.Characters.{begins, before_first, from_first, is_identifier_part, is_line_terminator}
use Rattle.js_text.specs.RegExpFlags.{flag_bits, flags_of_bits, flag_of_letter}
use Rattle.js_text.specs.declared.diagnostic.Diagnostic.{Diagnostic}
use Rattle.js_text.specs.declared.diagnostic.Diagnostic.TheVariants.{RegExpFlag, RegExpFlagTwice, UnterminatedRegExp}
use Rattle.js_text.specs.declared.reg_exp_flags.RegExpFlags.{RegExpFlags}
use Rattle.js_kind.specs.declared.kind.Kind.TheVariants.{RegExp}
use Rattle.js_grammar.specs.Reading.{Reading, read_up_to, place_behind, size_of}
use Rattle.js_grammar.specs.StringItems.{stretch}

abbrev pub left_square_bracket : ℕ
left_square_bracket = 0x5B

abbrev pub right_square_bracket : ℕ
right_square_bracket = 0x5D

-- A part of a regular expression is told by what is left behind it, where a text begins with one.

-- what is left behind parts that stand one after the other, so many at most
abbrev pub behind_up_to : (List ℕ → Option (List ℕ)) → ℕ → List ℕ → List ℕ
behind_up_to part zero text = text
behind_up_to part (suc most) text = option_map_or (behind_up_to part most) (part text) text

-- What is left behind all parts that stand one after the other: there are no more of them than characters.
abbrev pub behind_all : (List ℕ → Option (List ℕ)) → List ℕ → List ℕ
behind_all part text = behind_up_to part (length text) text

-- RegularExpressionNonTerminator
abbrev pub behind_non_terminator : List ℕ → Option (List ℕ)
behind_non_terminator [] = None
behind_non_terminator (c ∷ cs) = if is_line_terminator c then None else Some cs

-- RegularExpressionClassChar: one in the brackets of a class, or a RegularExpressionBackslashSequence
abbrev pub behind_class_character : List ℕ → Option (List ℕ)
behind_class_character [] = None
behind_class_character (c ∷ cs) =
    if c == backslash then behind_non_terminator cs
    else if c == right_square_bracket then None
    else behind_non_terminator (c ∷ cs)

-- the bracket that ends a class
abbrev pub behind_bracket : List ℕ → Option (List ℕ)
behind_bracket text = if begins (λ c. c == right_square_bracket) text then Some (drop 1 text) else None

-- RegularExpressionClass, from what stands behind its `[` on
abbrev pub behind_class : List ℕ → Option (List ℕ)
behind_class text = behind_bracket (behind_all behind_class_character text)

-- RegularExpressionChar: a character, a RegularExpressionBackslashSequence or a RegularExpressionClass
abbrev pub behind_body_character : List ℕ → Option (List ℕ)
behind_body_character [] = None
behind_body_character (c ∷ cs) =
    if c == backslash then behind_non_terminator cs
    else if c == left_square_bracket then behind_class cs
    else if c == slash then None
    else behind_non_terminator (c ∷ cs)

-- RegularExpressionBody
abbrev pub behind_body : List ℕ → List ℕ
behind_body text = behind_all behind_body_character text

-- the characters of RegularExpressionFlags that are read: ASCII letters, digits, `_` and `$`
abbrev pub is_flag_character : ℕ → Bool
is_flag_character c = nat_lt c 128 && is_identifier_part c

abbrev pub ends_flags : ℕ → Bool
ends_flags c = not (is_flag_character c)

abbrev pub no_flags : RegExpFlags
no_flags = flags_of_bits 0

-- the flag is in the set
abbrev pub has_flag : RegExpFlags → RegExpFlags → Bool
has_flag flags flag = bit_and (flag_bits flags) (flag_bits flag) == flag_bits flag

-- the set with the flag
abbrev pub with_flag : RegExpFlags → RegExpFlags → RegExpFlags
with_flag flags flag = flags_of_bits (bit_or (flag_bits flags) (flag_bits flag))

-- the set with the flag of the letter, if it is the letter of one
abbrev pub with_letter : RegExpFlags → ℕ → RegExpFlags
with_letter flags c = option_map_or (with_flag flags) (flag_of_letter c) flags

-- what is reported of a letter at the place: that it is no flag's, or that its flag is in the set of those before it
abbrev pub letter_reports : RegExpFlags → ℕ → ℕ → List Diagnostic
letter_reports flags place c =
    option_map_or (λ flag. if has_flag flags flag then RegExpFlagTwice c (stretch place (place + 1)) ∷ [] else [])
    (flag_of_letter c) (RegExpFlag c (stretch place (place + 1)) ∷ [])

-- the set with the flags of letters
abbrev pub with_letters : RegExpFlags → List ℕ → RegExpFlags
with_letters flags [] = flags
with_letters flags (c ∷ cs) = with_letters (with_letter flags c) cs

-- what is reported of letters that begin at the place, behind those of the set
abbrev pub flag_reports : RegExpFlags → ℕ → List ℕ → List Diagnostic
flag_reports flags place [] = []
flag_reports flags place (c ∷ cs) =
    letter_reports flags place c ++ flag_reports (with_letter flags c) (place + 1) cs

abbrev pub is_any : List Diagnostic → Bool
is_any [] = false
is_any (d ∷ ds) = true

-- what is read of a regular expression that the text begins with, where this is left behind its body, from its last `/`
-- on
abbrev pub with_flags_behind : List ℕ → List ℕ → Reading
with_flags_behind text left =
    let letters = before_first ends_flags (drop 1 left) in
    let pattern_end = size_of (read_up_to RegExp text left) in
    let reports = flag_reports no_flags (pattern_end + 1) letters in
    record (read_up_to RegExp text (from_first ends_flags (drop 1 left))) {
      regex = Some (record {
        pattern_end = pattern_end;
        flags = with_letters no_flags letters;
        flags_error = is_any reports;
      });
      diagnostics = reports;
    }

-- What is read where a line or the source ends before the body does: the rest of the source. It is reported up to
-- behind the character that ends the line.
abbrev pub unterminated_expression : List ℕ → Reading
unterminated_expression text = record (read_up_to RegExp text []) {
  regex = Some (record { pattern_end = place_behind 0 text; flags = no_flags; flags_error = false });
  diagnostics =
      UnterminatedRegExp
      (stretch 0 (size_of (read_up_to RegExp text (drop 1 (from_first is_line_terminator (drop 1 text)))))) ∷ [];
}

-- what is read, by what is left of the text behind the body
unfoldable pub expression_of_body : List ℕ → List ℕ → Reading
expression_of_body text left =
    if begins (λ c. c == slash) left then with_flags_behind text left else unterminated_expression text

-- What is read of a regular expression, where the text is what follows its `/`.
abbrev pub regular_expression : List ℕ → Reading
regular_expression text = expression_of_body (slash ∷ text) (behind_body text)

-- and from its `/` on
abbrev pub regular_expression_reading : List ℕ → Option Reading
regular_expression_reading [] = None
regular_expression_reading (c ∷ cs) = if c == slash then Some (regular_expression cs) else None
