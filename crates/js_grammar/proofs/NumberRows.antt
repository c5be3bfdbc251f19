-- Numbers as they are read, one by one: the definitions compute to what stands here.
use Rattle.js_grammar.specs.Reading.{read_up_to}
use Rattle.std.proofs.Common.{◌≡◌, ℕ, Bool, true, false, List, [], ◌∷◌, refl}
use Rattle.std.specs.Prelude.{codes}
use Rattle.std.specs.Char.{encode_utf8}
use Rattle.unicode_ident.proofs.Computing.{unicode_ident}
use Rattle.js_text.specs.Characters.{is_identifier_start}
use Rattle.js_text.specs.declared.diagnostic.Diagnostic.{Diagnostic}
use Rattle.js_text.specs.declared.diagnostic.Diagnostic.TheVariants.{InvalidCharacter, UnexpectedEnd, InvalidNumberEnd}
use Rattle.js_text.specs.declared.span.Span.{Span}
use Rattle.js_grammar.specs.Number.{is_exponent_indicator, may_not_follow_number, run, integer}
use Rattle.js_kind.specs.Digits.{is_digit_of}
use Rattle.js_grammar.specs.NumberReads.{number_reading, exponent_items, exponent_or, fraction_items, point_items}
use Rattle.js_grammar.specs.NumberReads.{behind_digits, suffix_or, decimal_items, unseparated_digits, legacy_items}
use Rattle.js_grammar.specs.NumberReads.{behind_prefix, zero_items, number_items, items_reading}
use Rattle.js_kind.specs.declared.kind.Kind.{Kind}
use Rattle.js_kind.specs.declared.kind.Kind.TheVariants.{BinaryBigInt, Decimal, DecimalBigInt, Eof, Float, Hex}
use Rattle.js_kind.specs.declared.kind.Kind.TheVariants.{NegativeExponential, Octal, OctalBigInt, PositiveExponential}

abbrev span : ℕ → ℕ → Span
span from to = record { start = from; end = to }

-- what is read of a number that the text begins with, where this is left behind it
abbrev Reads : List ℕ → Kind → List ℕ → Bool → List Diagnostic → Type 0
Reads text k left separator reported =
    number_reading text ≡ record (read_up_to k text left) { has_separator = separator; diagnostics = reported }

-- good ones
good :
    Reads (codes "1e5.x") PositiveExponential (codes ".x") false []
    × Reads (codes "08E1") PositiveExponential [] false []
    × Reads (codes "07.5") Octal (codes ".5") false []
    × Reads (codes "0b1_0n") BinaryBigInt [] true []
    × Reads (codes ".5") Float [] false []
    × Reads (codes ".1:b") Float (codes ":b") false []
    × Reads (codes "12 ") Decimal (codes " ") false []
    × Reads (codes "0xFF_AA_11;") Hex (codes ";") true []
    × Reads (codes "0o17n") OctalBigInt [] false []
    × Reads (codes "1n") DecimalBigInt [] false []
    × Reads (codes "1_000_000") Decimal [] true []
    × Reads (codes "0") Decimal [] false []
    × Reads (codes "09") Decimal [] false []
    × Reads (codes "1.5e-3") Float [] false []
    × Reads (codes "1.e+3") Float [] false []
    × Reads (codes "1E-7") NegativeExponential [] false []
    × Reads (codes "1..x") Float (codes ".x") false []
    × Reads (codes "09.5_1") Float [] true []
unfolding is_digit_of is_exponent_indicator may_not_follow_number is_identifier_start unicode_ident encode_utf8 run integer
    exponent_items exponent_or fraction_items point_items behind_digits suffix_or decimal_items unseparated_digits
    legacy_items behind_prefix zero_items number_items items_reading
good = (refl, refl, refl, refl, refl, refl, refl, refl, refl, refl, refl, refl, refl, refl, refl, refl, refl, refl)

-- and ones at fault
at_fault :
    Reads (codes "1.x") Eof [] false (InvalidNumberEnd (span 2 3) ∷ [])
    × Reads (codes "0e1a") Eof [] false (InvalidNumberEnd (span 3 4) ∷ [])
    × Reads (codes "1__2") Eof [] true (InvalidCharacter 95 (span 2 2) ∷ InvalidNumberEnd (span 2 3) ∷ [])
    × Reads (codes "0x") Eof [] false (UnexpectedEnd (span 2 2) ∷ [])
    × Reads (codes "1e") PositiveExponential [] false (UnexpectedEnd (span 2 2) ∷ [])
    × Reads (codes "1_n") DecimalBigInt [] true (InvalidCharacter 110 (span 2 2) ∷ [])
    × Reads (codes "1_.5") Float [] true (InvalidCharacter 46 (span 2 2) ∷ [])
    × Reads (codes "1a2") Eof [] false (InvalidNumberEnd (span 1 2) ∷ [])
    × Reads (codes "07_1") Eof [] false (InvalidNumberEnd (span 2 3) ∷ [])
    × Reads (codes "08e1a") Eof [] false (InvalidNumberEnd (span 4 5) ∷ [])
    × Reads (codes "0b1_") Eof [] true (UnexpectedEnd (span 4 4) ∷ [])
    × Reads (codes "0b_1") Eof [] false (InvalidCharacter 95 (span 2 2) ∷ [])
    × Reads (codes "0_1") Eof [] false (InvalidNumberEnd (span 1 2) ∷ [])
    × Reads (codes "1a_b") Eof [] false (InvalidNumberEnd (span 1 4) ∷ [])
    × Reads (codes "0b12") Eof [] false (InvalidNumberEnd (span 3 4) ∷ [])
    × Reads (codes ".9_E7") Float [] true (InvalidCharacter 69 (span 3 3) ∷ [])
    × Reads (codes "1e-") NegativeExponential [] false (UnexpectedEnd (span 3 3) ∷ [])
    × Reads (codes "0n0") Eof [] false (InvalidNumberEnd (span 2 3) ∷ [])
unfolding is_digit_of is_exponent_indicator may_not_follow_number is_identifier_start unicode_ident encode_utf8 run integer
    exponent_items exponent_or fraction_items point_items behind_digits suffix_or decimal_items unseparated_digits
    legacy_items behind_prefix zero_items number_items items_reading
at_fault = (refl, refl, refl, refl, refl, refl, refl, refl, refl, refl, refl, refl, refl, refl, refl, refl, refl, refl)
