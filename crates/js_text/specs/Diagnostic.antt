-- The parts of a diagnostic.
use Rattle.std.specs.Prelude.{ℕ, List, Option, Some, None, codes}
use Rattle.js_text.specs.declared.span.Span.{Span}
use Rattle.js_text.specs.declared.diagnostic.Diagnostic.{Diagnostic}
use Rattle.js_text.specs.declared.diagnostic.Diagnostic.TheVariants.{InvalidCharacter, UnexpectedEnd}
use Rattle.js_text.specs.declared.diagnostic.Diagnostic.TheVariants.{FileAppearsToBeBinary, InvalidNumberEnd}
use Rattle.js_text.specs.declared.diagnostic.Diagnostic.TheVariants.{UnterminatedString, UnterminatedMultiLineComment}
use Rattle.js_text.specs.declared.diagnostic.Diagnostic.TheVariants.{UnterminatedRegExp, UnicodeEscapeSequence}
use Rattle.js_text.specs.declared.diagnostic.Diagnostic.TheVariants.{InvalidEscapeSequence, RegExpFlag, RegExpFlagTwice}
use Rattle.js_text.specs.declared.diagnostic.Diagnostic.TheVariants.{UnexpectedJsxEnd, HtmlCommentInModule}

-- the name of its variant
abbrev pub diagnostic_name : Diagnostic → List ℕ
diagnostic_name (InvalidCharacter c s) = codes "InvalidCharacter"
diagnostic_name (UnexpectedEnd s) = codes "UnexpectedEnd"
diagnostic_name FileAppearsToBeBinary = codes "FileAppearsToBeBinary"
diagnostic_name (InvalidNumberEnd s) = codes "InvalidNumberEnd"
diagnostic_name (UnterminatedString s) = codes "UnterminatedString"
diagnostic_name (UnterminatedMultiLineComment s) = codes "UnterminatedMultiLineComment"
diagnostic_name (UnterminatedRegExp s) = codes "UnterminatedRegExp"
diagnostic_name (UnicodeEscapeSequence s) = codes "UnicodeEscapeSequence"
diagnostic_name (InvalidEscapeSequence s) = codes "InvalidEscapeSequence"
diagnostic_name (RegExpFlag c s) = codes "RegExpFlag"
diagnostic_name (RegExpFlagTwice c s) = codes "RegExpFlagTwice"
diagnostic_name (UnexpectedJsxEnd c s) = codes "UnexpectedJsxEnd"
diagnostic_name (HtmlCommentInModule s) = codes "HtmlCommentInModule"

-- where in the text it is, but for the whole file
abbrev pub diagnostic_span : Diagnostic → Option Span
diagnostic_span (InvalidCharacter c s) = Some s
diagnostic_span (UnexpectedEnd s) = Some s
diagnostic_span FileAppearsToBeBinary = None
diagnostic_span (InvalidNumberEnd s) = Some s
diagnostic_span (UnterminatedString s) = Some s
diagnostic_span (UnterminatedMultiLineComment s) = Some s
diagnostic_span (UnterminatedRegExp s) = Some s
diagnostic_span (UnicodeEscapeSequence s) = Some s
diagnostic_span (InvalidEscapeSequence s) = Some s
diagnostic_span (RegExpFlag c s) = Some s
diagnostic_span (RegExpFlagTwice c s) = Some s
diagnostic_span (UnexpectedJsxEnd c s) = Some s
diagnostic_span (HtmlCommentInModule s) = Some s

-- the character that it names
abbrev pub diagnostic_character : Diagnostic → Option ℕ
diagnostic_character (InvalidCharacter c s) = Some c
diagnostic_character (UnexpectedEnd s) = None
diagnostic_character FileAppearsToBeBinary = None
diagnostic_character (InvalidNumberEnd s) = None
diagnostic_character (UnterminatedString s) = None
diagnostic_character (UnterminatedMultiLineComment s) = None
diagnostic_character (UnterminatedRegExp s) = None
diagnostic_character (UnicodeEscapeSequence s) = None
diagnostic_character (InvalidEscapeSequence s) = None
diagnostic_character (RegExpFlag c s) = Some c
diagnostic_character (RegExpFlagTwice c s) = Some c
diagnostic_character (UnexpectedJsxEnd c s) = Some c
diagnostic_character (HtmlCommentInModule s) = None
