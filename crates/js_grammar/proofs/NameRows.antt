-- Names as they are read, one by one: the definitions compute to what stands here.
use Rattle.js_grammar.specs.Reading.{read_up_to, size_of}
use Rattle.js_kind.specs.Keywords.{name_kind}
use Rattle.std.specs.Str.{encode_utf8_all}
use Rattle.js_text.specs.Ascii.{number_sign}
use Rattle.js_text.specs.declared.value.RowValue.{RowValue}
use Rattle.js_text.specs.declared.value.RowValue.TheVariants.{Nothing, Slice, Units}
use Rattle.std.proofs.Common.{◌≡◌, ℕ, Bool, true, false, List, [], ◌∷◌, refl}
use Rattle.std.specs.Prelude.{codes}
use Rattle.std.specs.Char.{encode_utf8}
use Rattle.unicode_ident.proofs.Computing.{unicode_ident}
use Rattle.js_kind.specs.Digits.{is_digit_of}
use Rattle.js_kind.specs.declared.kind.Kind.{Kind}
use Rattle.js_kind.specs.declared.kind.Kind.TheVariants.{Eof, PrivateIdentifier, Undetermined}
use Rattle.js_text.specs.Characters.{is_identifier_start, is_identifier_part}
use Rattle.js_text.specs.declared.diagnostic.Diagnostic.{Diagnostic}
use Rattle.js_text.specs.declared.diagnostic.Diagnostic.TheVariants.{InvalidCharacter, UnexpectedEnd}
use Rattle.js_text.specs.declared.diagnostic.Diagnostic.TheVariants.{UnicodeEscapeSequence}
use Rattle.js_text.specs.declared.span.Span.{Span}
use Rattle.js_grammar.specs.Name.{name_reading, private_reading, private_name_of, name_value, low_surrogate_escape}
use Rattle.js_grammar.specs.Name.{surrogate_text, item_of_code_point}
use Rattle.js_grammar.specs.Name.{item_of_escape, escape_item, items_reading}
use Rattle.js_grammar.specs.UnicodeEscape.{four_digits, digits_of_code_point, braced_digits, unicode_escape}

abbrev span : ℕ → ℕ → Span
span from to = record { start = from; end = to }

-- what is read of the name that the text begins with, where this is left behind it
abbrev Reads : List ℕ → List ℕ → Bool → List ℕ → List Diagnostic → Type 0
Reads text left escaped value reported =
    name_reading text
    ≡ record (read_up_to (name_kind (encode_utf8_all value)) text left) {
      escaped = escaped;
      value = name_value escaped value 0 (size_of (read_up_to Eof text left));
      diagnostics = reported;
    }

-- what is read of a `#` and the text behind it
abbrev ReadsPrivate : List ℕ → Kind → List ℕ → Bool → RowValue → List Diagnostic → Type 0
ReadsPrivate behind k left escaped value reported =
    private_reading (number_sign ∷ behind)
    ≡ record (read_up_to k (number_sign ∷ behind) left) {
      escaped = escaped;
      value = value;
      diagnostics = reported;
    }

-- good ones
good :
    Reads (codes "let x") (codes " x") false (codes "let") []
    × Reads (codes "l\\u0065t") [] true (codes "let") []
    × Reads (codes "a\\u0030") [] true (codes "a0") []
    × Reads (codes "\\u{00000000061}b;") (codes ";") true (codes "ab") []
    × ReadsPrivate (codes "a\\u0062") PrivateIdentifier [] true (Units (codes "ab")) []
    × ReadsPrivate (codes "a b") PrivateIdentifier (codes " b") false (Slice (span 1 2)) []
unfolding is_digit_of is_identifier_start is_identifier_part unicode_ident encode_utf8 four_digits digits_of_code_point
    braced_digits unicode_escape low_surrogate_escape surrogate_text item_of_code_point item_of_escape escape_item
    items_reading private_name_of name_kind
good = (refl, refl, refl, refl, refl, refl)

-- and ones at fault
at_fault :
    Reads (codes "a\\") [] true (codes "a") (UnicodeEscapeSequence (span 2 2) ∷ [])
    × Reads (codes "a\\b") [] true (codes "a") (UnicodeEscapeSequence (span 2 3) ∷ [])
    × Reads (codes "\\u{}") (codes "}") true [] (UnicodeEscapeSequence (span 1 3) ∷ [])
    × Reads (codes "\\u00g") [] true (codes "g") (UnicodeEscapeSequence (span 1 4) ∷ [])
    × Reads (codes "\\u{110000}") (codes "}") true [] (UnicodeEscapeSequence (span 1 9) ∷ [])
    × Reads (codes "\\uD800\\uDEA7") [] true [] (UnicodeEscapeSequence (span 1 12) ∷ [])
    × Reads (codes "\\uD800\\u{DEA7}") [] true []
    (UnicodeEscapeSequence (span 1 6) ∷ UnicodeEscapeSequence (span 7 14) ∷ [])
    × Reads (codes "\\u{D800}\\uDEA7") [] true []
    (UnicodeEscapeSequence (span 1 8) ∷ UnicodeEscapeSequence (span 9 14) ∷ [])
    × Reads (codes "\\uD800\\u0061") [] true (codes "a") (UnicodeEscapeSequence (span 1 6) ∷ [])
    × Reads (codes "\\u0030") [] true [] (InvalidCharacter 48 (span 6 6) ∷ [])
    × Reads (codes "a\\u{2D}-") (codes "-") true (codes "a") (InvalidCharacter 45 (span 7 7) ∷ [])
    × ReadsPrivate [] Undetermined [] false Nothing (UnexpectedEnd (span 1 1) ∷ [])
    × ReadsPrivate (codes " a") Eof [] false Nothing (InvalidCharacter 32 (span 1 2) ∷ [])
    × ReadsPrivate (codes "\\") PrivateIdentifier [] true (Units []) (UnicodeEscapeSequence (span 2 2) ∷ [])
unfolding is_digit_of is_identifier_start is_identifier_part unicode_ident encode_utf8 four_digits digits_of_code_point
    braced_digits unicode_escape low_surrogate_escape surrogate_text item_of_code_point item_of_escape escape_item
    items_reading private_name_of name_kind
at_fault = (refl, refl, refl, refl, refl, refl, refl, refl, refl, refl, refl, refl, refl, refl)
