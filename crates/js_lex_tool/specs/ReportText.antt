-- The text of a report.
use Rattle.std.specs.Prelude.{ℕ, ◌+◌, Bool, true, false, List, [], ◌∷◌, ◌++◌, codes, Option, Some, None, slice_range}
use Rattle.std.specs.Prelude.{◌==◌, if◌then◌else◌}
use Rattle.std.specs.Option.{option_map_or}
use Rattle.js_grammar.specs.RegularExpression.{has_flag}
use Rattle.js_text.specs.RegExpFlags.{flag_bits, flag_of_letter}
use Rattle.js_text.specs.declared.reg_exp_flags.RegExpFlags.{RegExpFlags}
use Rattle.js_text.specs.declared.reg_exp_flags.RegexInfo.{RegexInfo}
use Rattle.std.specs.Fmt.{decimal}
use Rattle.std.specs.List.{flat_map}
use Rattle.js_text.specs.Comment.{comment_kind_name, comment_position_name, comment_content_name}
use Rattle.js_text.specs.Diagnostic.{diagnostic_name, diagnostic_span, diagnostic_character}
use Rattle.js_text.specs.declared.comment.Comment.{Comment}
use Rattle.js_text.specs.declared.diagnostic.Diagnostic.{Diagnostic}
use Rattle.js_text.specs.declared.span.Span.{Span}
use Rattle.js_kind.specs.Kinds.{kind_name}
use Rattle.js_kind.specs.TokenParts.{TokenParts}
use Rattle.js_session.specs.declared.command.Command.{Command}
use Rattle.js_session.specs.declared.report.Report.{Report}
use Rattle.js_session.specs.declared.row.Row.{Row}
use Rattle.js_text.specs.declared.value.RowValue.{RowValue}
use Rattle.js_text.specs.declared.value.RowValue.TheVariants.{Nothing, Slice, Units, Bad}
use Rattle.js_lex_tool.specs.Command.{command_word}
use Rattle.js_lex_tool.specs.Units.{text_in_units, all_units_text, number_text}

-- the letter of a flag that holds
abbrev pub letter : Bool → ℕ → List ℕ
letter true c = c ∷ []
letter false c = []

-- the flags that hold, of n, e and s, or a dash
abbrev pub flags_text : Bool → Bool → Bool → List ℕ
flags_text false false false = codes "-"
flags_text n e s = letter n 110 ++ letter e 101 ++ letter s 115

-- a span, as `3..4`
abbrev pub span_text : ℕ → ℕ → List ℕ
span_text start end = decimal start ++ codes ".." ++ decimal end

-- a token: its kind, its span and its flags
unfoldable pub token_text : TokenParts → List ℕ
token_text t =
    kind_name t.kind ++ codes " " ++ decimal t.start ++ codes ".." ++ decimal t.end ++ codes " "
    ++ flags_text t.is_on_new_line t.escaped t.has_separator

-- the name of a row's step: the word for its command, which the first step has not
abbrev pub step_name : Option Command → List ℕ
step_name None = codes "first"
step_name (Some c) = command_word c

-- 1 where it holds, else 0
abbrev pub bit_text : Bool → List ℕ
bit_text true = codes "1"
bit_text false = codes "0"

-- what stands before the token of a row
unfoldable pub row_head : ℕ → Row → List ℕ
row_head i row =
    codes "row " ++ decimal i ++ codes " " ++ step_name row.command ++ codes " " ++ decimal row.place ++ codes " "
    ++ bit_text row.taken ++ codes " "

-- the value of a row behind an equals sign, `!` for a bad one, or nothing
abbrev pub value_text : List ℕ → RowValue → List ℕ
value_text source Nothing = []
value_text source (Slice span) = codes " =" ++ text_in_units (slice_range source span.start span.end)
value_text source (Units units) = codes " =" ++ all_units_text units
value_text source Bad = codes " !"

-- the letter of a flag of a regular expression, where the flag is in the set
abbrev pub flag_letter : RegExpFlags → ℕ → List ℕ
flag_letter flags c = letter (option_map_or (has_flag flags) (flag_of_letter c) false) c

-- the letters of the flags, in the order of the alphabet
abbrev pub flag_letters_of : RegExpFlags → List ℕ
flag_letters_of flags = flat_map (flag_letter flags) (codes "dgimsuvy")

-- these, or a dash
abbrev pub regex_flags_text : RegExpFlags → List ℕ
regex_flags_text flags = if flag_bits flags == 0 then codes "-" else flag_letters_of flags

-- what is known of a regular expression behind a `/`, or nothing
abbrev pub regex_text : Option RegexInfo → List ℕ
regex_text None = []
regex_text (Some info) =
    codes " /" ++ decimal info.pattern_end ++ codes " " ++ regex_flags_text info.flags ++ codes " "
    ++ bit_text info.flags_error

-- a row with its number
abbrev pub row_line : List ℕ → ℕ → Row → List ℕ
row_line source i row =
    row_head i row ++ token_text row.token ++ value_text source row.value ++ regex_text row.regex ++ 10 ∷ []

-- a line for each row, numbered from i
abbrev pub row_lines : List ℕ → ℕ → List Row → List ℕ
row_lines source i [] = []
row_lines source i (row ∷ rows) = row_line source i row ++ row_lines source (i + 1) rows

-- a token behind a label
abbrev pub token_line : List ℕ → TokenParts → List ℕ
token_line label t = label ++ codes " " ++ token_text t ++ 10 ∷ []

-- the span of a diagnostic, or a dash
abbrev pub span_or_dash : Option Span → List ℕ
span_or_dash None = codes "-"
span_or_dash (Some span) = span_text span.start span.end

-- the number of a character that a diagnostic names
abbrev pub named_character : Option ℕ → List ℕ
named_character None = []
named_character (Some c) = number_text c

-- a diagnostic: its name, its span and its character
unfoldable pub diagnostic_text : Diagnostic → List ℕ
diagnostic_text d =
    diagnostic_name d ++ codes " " ++ span_or_dash (diagnostic_span d) ++ named_character (diagnostic_character d)

-- a diagnostic behind a label
abbrev pub diagnostic_line : List ℕ → Diagnostic → List ℕ
diagnostic_line label d = label ++ codes " " ++ diagnostic_text d ++ 10 ∷ []

-- a comment: its span, its kind and its position
unfoldable pub comment_head : Comment → List ℕ
comment_head c =
    codes "comment " ++ decimal c.span.start ++ codes ".." ++ decimal c.span.end ++ codes " "
    ++ comment_kind_name c.kind ++ codes " " ++ comment_position_name c.position

-- and then the place of its token, whether lines end before and behind it, and its class
unfoldable pub comment_rest : Comment → List ℕ
comment_rest c =
    codes " " ++ decimal c.attached_to ++ codes " " ++ bit_text c.preceded ++ codes " " ++ bit_text c.followed
    ++ codes " " ++ comment_content_name c.content

abbrev pub comment_line : Comment → List ℕ
comment_line c = comment_head c ++ comment_rest c ++ 10 ∷ []

-- irregular white space, or a warning
abbrev pub span_line : List ℕ → Span → List ℕ
span_line label span = label ++ codes " " ++ span_text span.start span.end ++ 10 ∷ []

-- the live tokens, and those that were collected
abbrev pub token_lines : Report → List ℕ
token_lines report =
    flat_map (token_line (codes "token")) report.tokens ++ flat_map (token_line (codes "collected")) report.collected

-- what is live of what was found
abbrev pub found_lines : Report → List ℕ
found_lines report =
    flat_map (diagnostic_line (codes "diagnostic")) report.diagnostics
    ++ flat_map (diagnostic_line (codes "deferred")) report.deferred
    ++ flat_map comment_line report.comments
    ++ flat_map (span_line (codes "irregular")) report.irregular
    ++ flat_map (span_line (codes "warning")) report.warnings

-- The text of a report: its rows, then the tokens, then what was found.
abbrev pub report_text_of : List ℕ → Report → List ℕ
report_text_of source report = row_lines source 0 report.rows ++ token_lines report ++ found_lines report
