-- Strings and templates as they are read, one by one: the definitions compute to what stands here.
use Rattle.js_grammar.specs.Reading.{Reading, read_up_to, size_of}
use Rattle.js_grammar.specs.StringItems.{quoted_value}
use Rattle.js_text.specs.Ascii.{grave_accent}
use Rattle.std.proofs.Common.{◌≡◌, ℕ, Bool, true, false, List, [], ◌∷◌, ◌++◌, refl}
use Rattle.std.specs.Prelude.{codes}
use Rattle.std.specs.Char.{encode_utf8}
use Rattle.js_text.specs.Ascii.{line_feed, carriage_return, backslash, quotation_mark, apostrophe}
use Rattle.js_text.specs.Characters.{is_line_terminator}
use Rattle.js_text.specs.declared.diagnostic.Diagnostic.{Diagnostic}
use Rattle.js_text.specs.declared.diagnostic.Diagnostic.TheVariants.{UnterminatedString, InvalidEscapeSequence}
use Rattle.js_kind.specs.Digits.{is_digit_of}
use Rattle.js_kind.specs.declared.kind.Kind.{Kind}
use Rattle.js_kind.specs.declared.kind.Kind.TheVariants.{Str, Undetermined, NoSubstitutionTemplate, TemplateHead}
use Rattle.js_kind.specs.declared.kind.Kind.TheVariants.{TemplateMiddle, TemplateTail}
use Rattle.js_grammar.specs.UnicodeEscape.{four_digits, digits_of_code_point, braced_digits, unicode_escape}
use Rattle.js_grammar.specs.StringItems.{StringValue, line_continuation, octal_escape, digit_in_template}
use Rattle.js_grammar.specs.StringItems.{single_character, digit_escape, escape, stretch, string_of_items}
use Rattle.js_grammar.specs.StringItems.{string_reading}
use Rattle.js_grammar.specs.StringItems.StringValue.{units, bad_value}
use Rattle.js_grammar.specs.Template.{carriage_return_item, template_value, part_of_items, template_part_reading}

-- a token of the kind, up to where this is left of the text, whose items have the value
abbrev quoted : Kind → List ℕ → List ℕ → Bool → StringValue → List Diagnostic → Reading
quoted k text left escaped value reported = record (read_up_to k text left) {
  escaped = escaped;
  value = quoted_value escaped value k (size_of (read_up_to k text left));
  diagnostics = reported;
}

-- a token that its mark does not end, up to where this is left of the text
abbrev broken : List ℕ → List ℕ → List Diagnostic → Reading
broken text left reported = record (read_up_to Undetermined text left) { diagnostics = reported }

-- what is read of a string, where the text follows its quote
abbrev StringIs : ℕ → List ℕ → Kind → List ℕ → Bool → StringValue → List Diagnostic → Type 0
StringIs quote text k left escaped value reported =
    string_reading quote text ≡ quoted k (quote ∷ text) left escaped value reported

abbrev IsBrokenString : ℕ → List ℕ → List ℕ → List Diagnostic → Type 0
IsBrokenString quote text left reported = string_reading quote text ≡ broken (quote ∷ text) left reported

-- what is read of a template, where the text follows its backquote
abbrev TemplateIs : List ℕ → Kind → List ℕ → Bool → StringValue → List Diagnostic → Type 0
TemplateIs text k left escaped value reported =
    template_part_reading TemplateHead NoSubstitutionTemplate (grave_accent ∷ text)
    ≡ quoted k (grave_accent ∷ text) left escaped value reported

abbrev IsBrokenTemplate : List ℕ → List ℕ → List Diagnostic → Type 0
IsBrokenTemplate text left reported =
    template_part_reading TemplateHead NoSubstitutionTemplate (grave_accent ∷ text)
    ≡ broken (grave_accent ∷ text) left reported

-- good strings
strings :
    StringIs quotation_mark (codes "ab\" c") Str (codes " c") false (units (codes "ab")) []
    × StringIs apostrophe (codes "a\"b';") Str (codes ";") false (units (codes "a\"b")) []
    × StringIs apostrophe (codes "\\\\'x") Str (codes "x") true (units (codes "\\")) []
    × StringIs quotation_mark (codes "\\n\\t\\q\\'\"") Str [] true (units (0x0A ∷ 0x09 ∷ codes "q'")) []
    × StringIs quotation_mark (codes "\\b\\f\\r\\v\"") Str [] true (units (0x08 ∷ 0x0C ∷ 0x0D ∷ 0x0B ∷ [])) []
    × StringIs quotation_mark (codes "\\x41\\u0042\\u{43}\"") Str [] true (units (codes "ABC")) []
    × StringIs quotation_mark (codes "\\uD83D\"") Str [] true (units (0xD83D ∷ [])) []
    × StringIs quotation_mark (codes "\\uD83D\\u{DE00}\"") Str [] true (units (0xD83D ∷ 0xDE00 ∷ [])) []
    × StringIs quotation_mark (codes "\\u{1F600}\"") Str [] true (units (0xD83D ∷ 0xDE00 ∷ [])) []
    × StringIs quotation_mark (0x1F600 ∷ codes "\"") Str [] false (units (0xD83D ∷ 0xDE00 ∷ [])) []
    × StringIs quotation_mark (codes "\\0\\08\\377\\400\\47\"") Str [] true
    (units (0x00 ∷ 0x00 ∷ codes "8" ++ (0xFF ∷ 0x20 ∷ codes "0'"))) []
    × StringIs quotation_mark (codes "\\8\\9\"") Str [] true (units (codes "89")) []
    × StringIs quotation_mark (backslash ∷ carriage_return ∷ line_feed ∷ codes "a\"") Str [] true (units (codes "a")) []
    × StringIs quotation_mark (backslash ∷ 0x2028 ∷ codes "\"") Str [] true (units []) []
    × StringIs quotation_mark (0x2028 ∷ codes "\"") Str [] false (units (0x2028 ∷ [])) []
unfolding is_digit_of is_line_terminator encode_utf8 four_digits digits_of_code_point braced_digits unicode_escape
    line_continuation octal_escape digit_in_template single_character digit_escape escape string_of_items
strings = (refl, refl, refl, refl, refl, refl, refl, refl, refl, refl, refl, refl, refl, refl, refl)

-- strings at fault
broken_strings :
    IsBrokenString quotation_mark (codes "\\") []
    (UnterminatedString (stretch 0 2) ∷ UnterminatedString (stretch 0 2) ∷ [])
    × StringIs quotation_mark (codes "\\uD83D\\u\"") Str [] true (units (0xD83D ∷ []))
    (InvalidEscapeSequence (stretch 7 9) ∷ [])
    × StringIs quotation_mark (codes "\\u{110000}\"") Str [] true (units (codes "}"))
    (InvalidEscapeSequence (stretch 1 10) ∷ [])
    × IsBrokenString quotation_mark (codes "ab" ++ (line_feed ∷ [])) []
    (UnterminatedString (stretch 0 4) ∷ [])
    × IsBrokenString quotation_mark (codes "ab" ++ (carriage_return ∷ line_feed ∷ [])) (line_feed ∷ [])
    (UnterminatedString (stretch 0 4) ∷ [])
    × StringIs quotation_mark (codes "\\xg\\x4\"") Str [] true (units (codes "g"))
    (InvalidEscapeSequence (stretch 1 3) ∷ InvalidEscapeSequence (stretch 4 7) ∷ [])
    × StringIs quotation_mark (codes "\\u{}\"") Str [] true (units (codes "}"))
    (InvalidEscapeSequence (stretch 1 4) ∷ [])
    × StringIs quotation_mark (codes "\\u{12\"") Str [] true (units [])
    (InvalidEscapeSequence (stretch 1 6) ∷ [])
    × IsBrokenString quotation_mark [] [] (UnterminatedString (stretch 0 1) ∷ [])
unfolding is_digit_of is_line_terminator encode_utf8 four_digits digits_of_code_point braced_digits unicode_escape
    line_continuation octal_escape digit_in_template single_character digit_escape escape string_of_items
broken_strings = (refl, refl, refl, refl, refl, refl, refl, refl, refl)

-- templates
templates :
    TemplateIs (codes "a`b") NoSubstitutionTemplate (codes "b") false (units (codes "a")) []
    × TemplateIs (codes "a${b}c`") TemplateHead (codes "b}c`") false (units (codes "a")) []
    × TemplateIs (codes "a$b$`") NoSubstitutionTemplate [] false (units (codes "a$b$")) []
    × TemplateIs (codes "\\`\\${`") NoSubstitutionTemplate [] true (units (codes "`${")) []
    × TemplateIs (codes "a" ++ (carriage_return ∷ line_feed ∷ codes "\\u`")) NoSubstitutionTemplate [] true bad_value []
    × IsBrokenTemplate (codes "a") [] (UnterminatedString (stretch 0 2) ∷ [])
    × IsBrokenTemplate (codes "\\") []
    (UnterminatedString (stretch 0 2) ∷ UnterminatedString (stretch 0 2) ∷ [])
    × IsBrokenTemplate [] [] (UnterminatedString (stretch 0 1) ∷ [])
    × TemplateIs (codes "\\0`") NoSubstitutionTemplate [] true (units (0x00 ∷ [])) []
    × TemplateIs (codes "\\00`") NoSubstitutionTemplate [] true bad_value []
    × TemplateIs (codes "\\7`") NoSubstitutionTemplate [] true bad_value []
    × TemplateIs (codes "\\9`") NoSubstitutionTemplate [] true bad_value []
    × TemplateIs (line_feed ∷ codes "`") NoSubstitutionTemplate [] false (units (line_feed ∷ [])) []
    × TemplateIs (carriage_return ∷ carriage_return ∷ line_feed ∷ codes "`") NoSubstitutionTemplate [] true
    (units (line_feed ∷ line_feed ∷ [])) []
    × TemplateIs (backslash ∷ carriage_return ∷ line_feed ∷ codes "`") NoSubstitutionTemplate [] true (units []) []
    × (template_part_reading TemplateMiddle TemplateTail (codes "}c`")
    ≡ quoted TemplateTail (codes "}c`") [] false (units (codes "c")) [])
    × (template_part_reading TemplateMiddle TemplateTail (codes "}")
    ≡ broken (codes "}") [] (UnterminatedString (stretch 0 1) ∷ []))
unfolding is_digit_of is_line_terminator encode_utf8 four_digits digits_of_code_point braced_digits unicode_escape
    line_continuation octal_escape digit_in_template single_character digit_escape escape carriage_return_item
    template_value part_of_items
templates = (
  refl,
  refl,
  refl,
  refl,
  refl,
  refl,
  refl,
  refl,
  refl,
  refl,
  refl,
  refl,
  refl,
  refl,
  refl,
  refl,
  refl,
)
