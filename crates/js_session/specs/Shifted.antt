-- Rows whose places are shifted: what stood from one place on stands from another one on.
use Rattle.std.specs.Prelude.{ℕ, ◌+◌, ◌-◌, ◌<◌, ◌^◌, map, Option, Some, None, IfSome}
use Rattle.std.specs.List.{All}
use Rattle.std.specs.Option.{option_map}
use Rattle.js_text.specs.Diagnostic.{diagnostic_span}
use Rattle.js_text.specs.declared.comment.Comment.{Comment}
use Rattle.js_text.specs.declared.diagnostic.Diagnostic.{Diagnostic}
use Rattle.js_text.specs.declared.diagnostic.Diagnostic.TheVariants.{InvalidCharacter, UnexpectedEnd}
use Rattle.js_text.specs.declared.diagnostic.Diagnostic.TheVariants.{FileAppearsToBeBinary, InvalidNumberEnd}
use Rattle.js_text.specs.declared.diagnostic.Diagnostic.TheVariants.{UnterminatedString, UnterminatedMultiLineComment}
use Rattle.js_text.specs.declared.diagnostic.Diagnostic.TheVariants.{UnterminatedRegExp, UnicodeEscapeSequence}
use Rattle.js_text.specs.declared.diagnostic.Diagnostic.TheVariants.{InvalidEscapeSequence, RegExpFlag, RegExpFlagTwice}
use Rattle.js_text.specs.declared.diagnostic.Diagnostic.TheVariants.{UnexpectedJsxEnd, HtmlCommentInModule}
use Rattle.js_text.specs.declared.reg_exp_flags.RegexInfo.{RegexInfo}
use Rattle.js_text.specs.declared.span.Span.{Span}
use Rattle.js_text.specs.declared.value.RowValue.{RowValue}
use Rattle.js_text.specs.declared.value.RowValue.TheVariants.{Nothing, Slice, Units, Bad}
use Rattle.js_kind.specs.TokenParts.{TokenParts}
use Rattle.js_grammar.specs.Outcome.{Findings}
use Rattle.js_session.specs.Live.{row_findings}
use Rattle.js_session.specs.declared.row.Row.{Row}

-- a place, where what stood from one place on stands from another one on
abbrev pub shifted : ℕ → ℕ → ℕ → ℕ
shifted from to place = place - from + to

abbrev pub shifted_span : ℕ → ℕ → Span → Span
shifted_span from to span = record { start = shifted from to span.start; end = shifted from to span.end }

-- the same diagnostic, about another stretch
abbrev pub with_span : Diagnostic → Span → Diagnostic
with_span (InvalidCharacter c s) span = InvalidCharacter c span
with_span (UnexpectedEnd s) span = UnexpectedEnd span
with_span FileAppearsToBeBinary span = FileAppearsToBeBinary
with_span (InvalidNumberEnd s) span = InvalidNumberEnd span
with_span (UnterminatedString s) span = UnterminatedString span
with_span (UnterminatedMultiLineComment s) span = UnterminatedMultiLineComment span
with_span (UnterminatedRegExp s) span = UnterminatedRegExp span
with_span (UnicodeEscapeSequence s) span = UnicodeEscapeSequence span
with_span (InvalidEscapeSequence s) span = InvalidEscapeSequence span
with_span (RegExpFlag c s) span = RegExpFlag c span
with_span (RegExpFlagTwice c s) span = RegExpFlagTwice c span
with_span (UnexpectedJsxEnd c s) span = UnexpectedJsxEnd c span
with_span (HtmlCommentInModule s) span = HtmlCommentInModule span

-- the diagnostic with its stretch shifted, if it has one
abbrev pub with_shifted : ℕ → ℕ → Diagnostic → Option Span → Diagnostic
with_shifted from to diagnostic None = diagnostic
with_shifted from to diagnostic (Some span) = with_span diagnostic (shifted_span from to span)

abbrev pub shifted_diagnostic : ℕ → ℕ → Diagnostic → Diagnostic
shifted_diagnostic from to diagnostic = with_shifted from to diagnostic (diagnostic_span diagnostic)

abbrev pub shifted_comment : ℕ → ℕ → Comment → Comment
shifted_comment from to comment = record comment {
  span = shifted_span from to comment.span;
  attached_to = shifted from to comment.attached_to;
}

abbrev pub shifted_value : ℕ → ℕ → RowValue → RowValue
shifted_value from to Nothing = Nothing
shifted_value from to (Slice span) = Slice (shifted_span from to span)
shifted_value from to (Units units) = Units units
shifted_value from to Bad = Bad

abbrev pub shifted_regex : ℕ → ℕ → RegexInfo → RegexInfo
shifted_regex from to info = record info { pattern_end = shifted from to info.pattern_end }

abbrev pub shifted_token : ℕ → ℕ → TokenParts → TokenParts
shifted_token from to token =
    record token { start = shifted from to token.start; end = shifted from to token.end }

abbrev pub shifted_findings : ℕ → ℕ → Findings → Findings
shifted_findings from to found = record {
  diagnostics = map (shifted_diagnostic from to) found.diagnostics;
  deferred = map (shifted_diagnostic from to) found.deferred;
  comments = map (shifted_comment from to) found.comments;
  irregular = map (shifted_span from to) found.irregular;
  warnings = map (shifted_span from to) found.warnings;
}

-- the row with each of its places shifted
abbrev pub shifted_row : ℕ → ℕ → Row → Row
shifted_row from to row = record {
  command = row.command;
  place = shifted from to row.place;
  taken = row.taken;
  token = shifted_token from to row.token;
  value = shifted_value from to row.value;
  regex = option_map (shifted_regex from to) row.regex;
  diagnostics = map (shifted_diagnostic from to) row.diagnostics;
  deferred = map (shifted_diagnostic from to) row.deferred;
  comments = map (shifted_comment from to) row.comments;
  irregular = map (shifted_span from to) row.irregular;
  warnings = map (shifted_span from to) row.warnings;
}

-- P holds of both ends of a span.
pub record OfSpan (P : ℕ → Type 0) (span : Span) : Type 0 where
  pub start : P span.start
  pub end : P span.end

-- P holds of both ends of a diagnostic's span, if it has one.
abbrev pub OfDiagnostic : (ℕ → Type 0) → Diagnostic → Type 0
OfDiagnostic P diagnostic = IfSome (diagnostic_span diagnostic) (OfSpan P)

-- P holds of both ends of a comment's span, and of the place that it is attached to.
pub record OfComment (P : ℕ → Type 0) (comment : Comment) : Type 0 where
  pub span : OfSpan P comment.span
  pub attached_to : P comment.attached_to

-- P holds of both ends of a value that is a stretch of the source.
abbrev pub OfValue : (ℕ → Type 0) → RowValue → Type 0
OfValue P Nothing = Unit {0}
OfValue P (Slice span) = OfSpan P span
OfValue P (Units units) = Unit {0}
OfValue P Bad = Unit {0}

-- P holds of the place where a pattern ends, if there is one.
abbrev pub OfRegex : (ℕ → Type 0) → Option RegexInfo → Type 0
OfRegex P regex = IfSome regex (λ info. P info.pattern_end)

-- P holds of each place of what was found.
pub record OfFindings (P : ℕ → Type 0) (found : Findings) : Type 0 where
  pub diagnostics : All (OfDiagnostic P) found.diagnostics
  pub deferred : All (OfDiagnostic P) found.deferred
  pub comments : All (OfComment P) found.comments
  pub irregular : All (OfSpan P) found.irregular
  pub warnings : All (OfSpan P) found.warnings

-- P holds of each place of a row.
pub record OfEachPlace (P : ℕ → Type 0) (row : Row) : Type 0 where
  pub place : P row.place
  pub start : P row.token.start
  pub end : P row.token.end
  pub value : OfValue P row.value
  pub regex : OfRegex P row.regex
  pub found : OfFindings P (row_findings row)

-- The place is a `u32` once it is shifted.
abbrev pub FitsShifted : ℕ → ℕ → ℕ → Type 0
FitsShifted from to place = shifted from to place < 2 ^ 32

-- Each place of the row is a `u32` once it is shifted.
abbrev pub ShiftFits : ℕ → ℕ → Row → Type 0
ShiftFits from to row = OfEachPlace (FitsShifted from to) row
