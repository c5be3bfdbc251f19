-- The records that C sees of spans, comments and diagnostics.
use Rattle.std.specs.Prelude.{ℕ, Option, Some, None}
use denote.Enum.Declared.{tag_of}
use Rattle.js_text.specs.CommentNewlines.{newline_bits, newlines_of}
use Rattle.js_text.specs.Diagnostic.{diagnostic_character, diagnostic_span}
use Rattle.js_text.specs.contracts.comment.CommentContent.{the_type as contents}
use Rattle.js_text.specs.contracts.comment.CommentKind.{the_type as comment_kinds}
use Rattle.js_text.specs.contracts.comment.CommentPosition.{the_type as positions}
use Rattle.js_text.specs.declared.comment.Comment.{Comment}
use Rattle.js_text.specs.declared.comment.CommentContent.{CommentContent}
use Rattle.js_text.specs.declared.comment.CommentKind.{CommentKind}
use Rattle.js_text.specs.declared.comment.CommentPosition.{CommentPosition}
use Rattle.js_text.specs.declared.diagnostic.Diagnostic.{Diagnostic}
use Rattle.js_text.specs.declared.diagnostic.Diagnostic.TheVariants.{InvalidCharacter, UnexpectedEnd}
use Rattle.js_text.specs.declared.diagnostic.Diagnostic.TheVariants.{FileAppearsToBeBinary, InvalidNumberEnd}
use Rattle.js_text.specs.declared.diagnostic.Diagnostic.TheVariants.{UnterminatedString, UnterminatedMultiLineComment}
use Rattle.js_text.specs.declared.diagnostic.Diagnostic.TheVariants.{UnterminatedRegExp, UnicodeEscapeSequence}
use Rattle.js_text.specs.declared.diagnostic.Diagnostic.TheVariants.{InvalidEscapeSequence, RegExpFlag, RegExpFlagTwice}
use Rattle.js_text.specs.declared.diagnostic.Diagnostic.TheVariants.{UnexpectedJsxEnd, HtmlCommentInModule}
use Rattle.js_text.specs.declared.span.Span.{Span}
use Rattle.js_lex_c.specs.declared.record.JsComment.{JsComment}
use Rattle.js_lex_c.specs.declared.record.JsDiagnostic.{JsDiagnostic}
use Rattle.js_lex_c.specs.declared.record.JsSpan.{JsSpan}

-- in the place of an offset or a character: there is none
abbrev pub no_number : ℕ
no_number = 0xFFFFFFFF

abbrev pub span_record : Span → JsSpan
span_record span = record { start = span.start; end = span.end }

abbrev pub span_or_none : Option Span → JsSpan
span_or_none None = record { start = no_number; end = no_number }
span_or_none (Some span) = span_record span

abbrev pub character_or_none : Option ℕ → ℕ
character_or_none None = no_number
character_or_none (Some c) = c

-- the numbers of the parts of a comment: the place of each among its variants, from 0 on
abbrev pub comment_kind_number : CommentKind → ℕ
comment_kind_number = tag_of comment_kinds

abbrev pub comment_position_number : CommentPosition → ℕ
comment_position_number = tag_of positions

abbrev pub comment_content_number : CommentContent → ℕ
comment_content_number = tag_of contents

-- how many classes of comments there are
abbrev pub comment_content_count : ℕ
comment_content_count = 14

abbrev pub comment_record : Comment → JsComment
comment_record c = record {
  span = span_record c.span;
  attached_to = c.attached_to;
  kind = comment_kind_number c.kind;
  position = comment_position_number c.position;
  newlines = newline_bits (newlines_of c.preceded c.followed);
  content = comment_content_number c.content;
}

-- the number of a diagnostic: its place among the variants, from 0 on
abbrev pub diagnostic_number : Diagnostic → ℕ
diagnostic_number (InvalidCharacter c s) = 0
diagnostic_number (UnexpectedEnd s) = 1
diagnostic_number FileAppearsToBeBinary = 2
diagnostic_number (InvalidNumberEnd s) = 3
diagnostic_number (UnterminatedString s) = 4
diagnostic_number (UnterminatedMultiLineComment s) = 5
diagnostic_number (UnterminatedRegExp s) = 6
diagnostic_number (UnicodeEscapeSequence s) = 7
diagnostic_number (InvalidEscapeSequence s) = 8
diagnostic_number (RegExpFlag c s) = 9
diagnostic_number (RegExpFlagTwice c s) = 10
diagnostic_number (UnexpectedJsxEnd c s) = 11
diagnostic_number (HtmlCommentInModule s) = 12

-- how many diagnostics there are
abbrev pub diagnostic_count : ℕ
diagnostic_count = 13

abbrev pub diagnostic_record : Diagnostic → JsDiagnostic
diagnostic_record d = record {
  span = span_or_none (diagnostic_span d);
  number = diagnostic_number d;
  character = character_or_none (diagnostic_character d);
}
