-- What is read at the beginning of a text, in offsets from there, and what that is from a place on.
use Rattle.std.specs.Prelude.{ℕ, ◌+◌, ◌-◌, Bool, false, List, [], length, take, map, Option, None}
use Rattle.std.specs.Str.{encode_utf8_all}
use Rattle.js_text.specs.declared.diagnostic.Diagnostic.{Diagnostic}
use Rattle.js_text.specs.declared.diagnostic.Diagnostic.TheVariants.{InvalidCharacter, UnexpectedEnd}
use Rattle.js_text.specs.declared.diagnostic.Diagnostic.TheVariants.{FileAppearsToBeBinary, InvalidNumberEnd}
use Rattle.js_text.specs.declared.diagnostic.Diagnostic.TheVariants.{UnterminatedString, UnterminatedMultiLineComment}
use Rattle.js_text.specs.declared.diagnostic.Diagnostic.TheVariants.{UnterminatedRegExp, UnicodeEscapeSequence}
use Rattle.js_text.specs.declared.diagnostic.Diagnostic.TheVariants.{InvalidEscapeSequence, RegExpFlag, RegExpFlagTwice}
use Rattle.js_text.specs.declared.diagnostic.Diagnostic.TheVariants.{UnexpectedJsxEnd, HtmlCommentInModule}
use Rattle.js_text.specs.declared.reg_exp_flags.RegexInfo.{RegexInfo}
use Rattle.js_text.specs.declared.span.Span.{Span}
use Rattle.js_text.specs.declared.value.RowValue.{RowValue}
use Rattle.js_text.specs.declared.value.RowValue.TheVariants.{Nothing, Slice, Units, Bad}
use Rattle.js_kind.specs.declared.kind.Kind.{Kind}

-- What is read at the beginning of a text: the characters that were taken, and what is left behind them; the kind of
-- the token, its flags and its value, and what is known of it as a regular expression; and what is reported. A line may
-- end in what was taken as in a gap. All offsets are from the beginning of the text.
pub record Reading : Type 0 where
  pub taken : List ℕ
  pub rest : List ℕ
  pub kind : Kind
  pub line_ended : Bool
  pub escaped : Bool
  pub has_separator : Bool
  pub value : RowValue
  pub regex : Option RegexInfo
  pub diagnostics : List Diagnostic

-- the characters of a text before those that are left of it
abbrev pub before_rest : List ℕ → List ℕ → List ℕ
before_rest text rest = take (length text - length rest) text

-- the place behind these characters, which begin at the place
abbrev pub place_behind : ℕ → List ℕ → ℕ
place_behind place xs = place + length (encode_utf8_all xs)

-- how many bytes were taken
abbrev pub size_of : Reading → ℕ
size_of reading = length (encode_utf8_all reading.taken)

-- a token of the kind, up to where this is left of the text, of which nothing else is known
abbrev pub read_up_to : Kind → List ℕ → List ℕ → Reading
read_up_to kind text rest = record {
  taken = before_rest text rest;
  rest = rest;
  kind = kind;
  line_ended = false;
  escaped = false;
  has_separator = false;
  value = Nothing;
  regex = None;
  diagnostics = [];
}

-- a span, so many bytes further on
abbrev pub moved_span : ℕ → Span → Span
moved_span by span = record { start = by + span.start; end = by + span.end }

abbrev pub moved_diagnostic : ℕ → Diagnostic → Diagnostic
moved_diagnostic by (InvalidCharacter c s) = InvalidCharacter c (moved_span by s)
moved_diagnostic by (UnexpectedEnd s) = UnexpectedEnd (moved_span by s)
moved_diagnostic by FileAppearsToBeBinary = FileAppearsToBeBinary
moved_diagnostic by (InvalidNumberEnd s) = InvalidNumberEnd (moved_span by s)
moved_diagnostic by (UnterminatedString s) = UnterminatedString (moved_span by s)
moved_diagnostic by (UnterminatedMultiLineComment s) = UnterminatedMultiLineComment (moved_span by s)
moved_diagnostic by (UnterminatedRegExp s) = UnterminatedRegExp (moved_span by s)
moved_diagnostic by (UnicodeEscapeSequence s) = UnicodeEscapeSequence (moved_span by s)
moved_diagnostic by (InvalidEscapeSequence s) = InvalidEscapeSequence (moved_span by s)
moved_diagnostic by (RegExpFlag c s) = RegExpFlag c (moved_span by s)
moved_diagnostic by (RegExpFlagTwice c s) = RegExpFlagTwice c (moved_span by s)
moved_diagnostic by (UnexpectedJsxEnd c s) = UnexpectedJsxEnd c (moved_span by s)
moved_diagnostic by (HtmlCommentInModule s) = HtmlCommentInModule (moved_span by s)

abbrev pub moved_diagnostics : ℕ → List Diagnostic → List Diagnostic
moved_diagnostics by diagnostics = map (moved_diagnostic by) diagnostics

-- what is reported of a token that begins at the place, of which this was read
abbrev pub reported_at : ℕ → Reading → List Diagnostic
reported_at place reading = moved_diagnostics place reading.diagnostics

abbrev pub moved_value : ℕ → RowValue → RowValue
moved_value by Nothing = Nothing
moved_value by (Slice span) = Slice (moved_span by span)
moved_value by (Units units) = Units units
moved_value by Bad = Bad

abbrev pub moved_regex : ℕ → RegexInfo → RegexInfo
moved_regex by info = record info { pattern_end = by + info.pattern_end }
