-- What is read where nothing is spelled, and what is reported of it.
use Rattle.std.specs.Prelude.{ℕ, Bool, List, [], ◌∷◌, ◌==◌, ◌||◌, nat_lt, nat_le, codes, Option, Some}
use Rattle.std.specs.Prelude.{None}
use Rattle.std.specs.Prelude.{if◌then◌else◌}
use Rattle.std.specs.List.{list_any}
use Rattle.js_text.specs.Ascii.{number_sign}
use Rattle.js_text.specs.Characters.{is_line_terminator, begins}
use Rattle.js_text.specs.declared.diagnostic.Diagnostic.{Diagnostic}
use Rattle.js_text.specs.declared.diagnostic.Diagnostic.TheVariants.{InvalidCharacter, FileAppearsToBeBinary}
use Rattle.js_text.specs.declared.diagnostic.Diagnostic.TheVariants.{UnterminatedMultiLineComment}
use Rattle.js_grammar.specs.Gap.{is_prefix}
use Rattle.js_grammar.specs.Name.{name_reading, private_reading, begins_name}
use Rattle.js_grammar.specs.Number.{begins_number}
use Rattle.js_grammar.specs.NumberReads.{number_reading}
use Rattle.js_grammar.specs.Reading.{Reading, read_up_to, place_behind}
use Rattle.js_grammar.specs.Quoted.{begins_quoted, quoted_reading}
use Rattle.js_kind.specs.declared.kind.Kind.{Kind}
use Rattle.js_kind.specs.declared.kind.Kind.TheVariants.{Eof, Undetermined}

-- a faulty token of a kind without a value, up to where this is left of the text
abbrev pub faulty : Kind → List ℕ → List ℕ → Diagnostic → Reading
faulty kind text rest diagnostic = record (read_up_to kind text rest) { diagnostics = diagnostic ∷ [] }

-- `/*` that no `*/` ends: the rest of the source. The newline flag counts the line terminators inside it.
abbrev pub unterminated_comment : List ℕ → Reading
unterminated_comment here =
    record (faulty Eof here [] (UnterminatedMultiLineComment (record { start = 0; end = place_behind 0 here }))) {
      line_ended = list_any is_line_terminator here;
    }

-- U+FFFD, which stands where the bytes of a file were no text: the rest of the source
abbrev pub binary_file : List ℕ → Reading
binary_file here = faulty Eof here [] FileAppearsToBeBinary

-- the control characters of ASCII, and all characters beyond it
abbrev pub is_control_or_wide : ℕ → Bool
is_control_or_wide c = nat_lt c 32 || nat_le 127 c

-- a character that begins nothing
abbrev pub invalid_character : ℕ → List ℕ → Reading
invalid_character c cs =
    faulty Undetermined (c ∷ cs) cs (InvalidCharacter c (record { start = 0; end = place_behind 0 (c ∷ []) }))

-- a character of those that begin nothing where no name begins with it
abbrev pub recovered_character : List ℕ → Option Reading
recovered_character [] = None
recovered_character (c ∷ cs) = if is_control_or_wide c then Some (invalid_character c cs) else None

-- What is read of a text at whose beginning nothing is spelled: the first row that fits it.
abbrev pub recovered : List ℕ → Option Reading
recovered here =
    if is_prefix (codes "/*") here then Some (unterminated_comment here)
    else if begins_name here then Some (name_reading here)
    else if begins (λ c. c == number_sign) here then Some (private_reading here)
    else if begins_number here then Some (number_reading here)
    else if begins begins_quoted here then Some (quoted_reading here)
    else if begins (λ c. c == 0xFFFD) here then Some (binary_file here)
    else recovered_character here
