-- The parts of what a parser reports.
use Rattle.std.specs.Prelude.{ℕ, List, codes}
use Rattle.js_text.specs.declared.span.Span.{Span}
use Rattle.js_cursor.specs.declared.diagnostic.CursorDiagnostic.{CursorDiagnostic}
use Rattle.js_cursor.specs.declared.diagnostic.CursorDiagnostic.TheVariants.{EscapedKeyword, AutoSemicolonInsertion}
use Rattle.js_cursor.specs.declared.diagnostic.CursorDiagnostic.TheVariants.{ExpectToken, ExpectClosing}
use Rattle.js_cursor.specs.declared.diagnostic.CursorDiagnostic.TheVariants.{ExpectConditionalAlternative}
use Rattle.js_cursor.specs.declared.diagnostic.CursorDiagnostic.TheVariants.{ExpectClosingOrSeparator}
use Rattle.js_cursor.specs.declared.diagnostic.CursorDiagnostic.TheVariants.{RestElementTrailingComma, RestLast, Parser}

-- the name of a diagnostic
abbrev pub cursor_diagnostic_name : CursorDiagnostic → List ℕ
cursor_diagnostic_name (EscapedKeyword span) = codes "EscapedKeyword"
cursor_diagnostic_name (AutoSemicolonInsertion span) = codes "AutoSemicolonInsertion"
cursor_diagnostic_name (ExpectToken expected found span) = codes "ExpectToken"
cursor_diagnostic_name (ExpectClosing expected found span opening) = codes "ExpectClosing"
cursor_diagnostic_name (ExpectConditionalAlternative found span question) = codes "ExpectConditionalAlternative"
cursor_diagnostic_name (ExpectClosingOrSeparator close separator found span opening) = codes "ExpectClosingOrSeparator"
cursor_diagnostic_name (RestElementTrailingComma span) = codes "RestElementTrailingComma"
cursor_diagnostic_name (RestLast span) = codes "RestLast"
cursor_diagnostic_name (Parser code span) = codes "Parser"

-- where a diagnostic is: the span that no other name is given to
abbrev pub cursor_diagnostic_span : CursorDiagnostic → Span
cursor_diagnostic_span (EscapedKeyword span) = span
cursor_diagnostic_span (AutoSemicolonInsertion span) = span
cursor_diagnostic_span (ExpectToken expected found span) = span
cursor_diagnostic_span (ExpectClosing expected found span opening) = span
cursor_diagnostic_span (ExpectConditionalAlternative found span question) = span
cursor_diagnostic_span (ExpectClosingOrSeparator close separator found span opening) = span
cursor_diagnostic_span (RestElementTrailingComma span) = span
cursor_diagnostic_span (RestLast span) = span
cursor_diagnostic_span (Parser code span) = span
