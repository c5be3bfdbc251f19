-- What a cursor makes of a token that is expected and is not there: each is the cursor before it goes on.
use Rattle.std.specs.Prelude.{if◌then◌else◌}
use Rattle.js_text.specs.declared.span.Span.{Span}
use Rattle.js_kind.specs.declared.kind.Kind.{Kind}
use Rattle.js_kind.specs.declared.kind.Kind.TheVariants.{Colon}
use Rattle.js_cursor.specs.declared.diagnostic.CursorDiagnostic.TheVariants.{AutoSemicolonInsertion, ExpectClosing}
use Rattle.js_cursor.specs.declared.diagnostic.CursorDiagnostic.TheVariants.{ExpectConditionalAlternative, ExpectToken}
use Rattle.js_cursor.specs.Cursor.{CursorState, allows_semicolon, empty_span, is_at, span_of, with_fatal_error}

-- another kind of token stops the cursor
abbrev pub expecting : Kind → CursorState → CursorState
expecting kind c =
    if is_at kind c then c else with_fatal_error (ExpectToken kind c.token.kind (span_of c.token)) c

-- and so where what this span opens is to be closed
abbrev pub expecting_closing : Kind → Span → CursorState → CursorState
expecting_closing kind opening c =
    if is_at kind c then c else with_fatal_error (ExpectClosing kind c.token.kind (span_of c.token) opening) c

-- and so where the `?` at this span is to have its `:`
abbrev pub expecting_alternative : Span → CursorState → CursorState
expecting_alternative question c =
    if is_at Colon c then c
    else with_fatal_error (ExpectConditionalAlternative c.token.kind (span_of c.token) question) c

-- A statement that ends before the current token, which is no semicolon, needs that one can be inserted here.
abbrev pub expecting_semicolon : CursorState → CursorState
expecting_semicolon c =
    if allows_semicolon c.token then c
    else with_fatal_error (AutoSemicolonInsertion (empty_span c.previous_end)) c
