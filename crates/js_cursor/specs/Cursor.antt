-- How contracts see a cursor, and what its advances do.
use Rattle.std.specs.Prelude.{◌≡◌, ◌≢◌, ℕ, ◌<◌, ◌≤◌, ◌==◌, ◌&&◌, ◌||◌, Bool, List, [], ◌∷◌, ◌++◌, length, Option, Some, None}
use Rattle.std.specs.Prelude.{if◌then◌else◌}
use Rattle.std.specs.Option.{is_some}
use Rattle.js_text.specs.declared.span.Span.{Span}
use Rattle.js_kind.specs.Kinds.{number, is_one_of, is_name_kind}
use Rattle.js_kind.specs.TokenParts.{TokenParts}
use Rattle.js_kind.specs.declared.kind.Kind.{Kind}
use Rattle.js_kind.specs.declared.kind.Kind.TheVariants.{Eof, Semicolon, RCurly}
use Rattle.js_grammar.specs.declared.goal.Goal.{Goal}
use Rattle.js_grammar.specs.declared.goal.Goal.TheVariants.{Next}
use Rattle.js_reader.specs.Decoded.{Keeps}
use Rattle.js_lexer.specs.Lexer.{LexerState, IsRestored, ReadsToken}
use Rattle.js_cursor.specs.declared.diagnostic.CursorDiagnostic.{CursorDiagnostic}
use Rattle.js_cursor.specs.declared.diagnostic.CursorDiagnostic.TheVariants.{EscapedKeyword}
use Rattle.js_cursor.specs.declared.diagnostic.FatalError.{FatalError}

-- A cursor: its lexer, the current token, where the token before it ended, the parser's own errors, the fatal error if
-- there is one, and whether what is read stands in an ambient context.
pub record CursorState : Type 0 where
  pub lexer : LexerState
  pub token : TokenParts
  pub previous_end : ℕ
  pub errors : List CursorDiagnostic
  pub fatal : Option FatalError
  pub ambient : Bool

-- a lexer that stands at the start of its text and has read nothing yet
pub record IsFresh (l : LexerState) : Type 0 where
  pub place : l.place ≡ 0
  pub last : l.last ≡ None

-- a token other than the end of the source has at least one byte
abbrev pub HasByte : TokenParts → Type 0
HasByte token = token.kind ≢ Eof → token.start < token.end

-- The text is that of the lexer, and the token is the last one that the lexer read, up to its place at most; the
-- token before it ended no later than it starts.
pub record IsOnToken (text : List ℕ) (lexer : LexerState) (token : TokenParts) (previous_end : ℕ) : Type 0 where
  pub text_is : lexer.text ≡ text
  pub last : lexer.last ≡ Some token
  pub some_text : HasByte token
  pub ordered : token.start ≤ token.end
  pub is_read : token.end ≤ lexer.place
  pub previous : previous_end ≤ token.start

-- where a token stands, in bytes
abbrev pub span_of : TokenParts → Span
span_of token = record { start = token.start; end = token.end }

-- the span of no bytes at a place
abbrev pub empty_span : ℕ → Span
empty_span at = record { start = at; end = at }

-- the current token is of this kind
abbrev pub is_at : Kind → CursorState → Bool
is_at kind c = number c.token.kind == number kind

-- the lexer stands where the current token ends
abbrev pub is_at_token_end : CursorState → Bool
is_at_token_end c = c.lexer.place == c.token.end

-- Automatic semicolon insertion (ECMA-262 12.10) allows a semicolon before the token: it is a semicolon itself, a `}`,
-- the end of the source, or the first of its line.
abbrev pub allows_semicolon : TokenParts → Bool
allows_semicolon token = is_one_of (Semicolon ∷ RCurly ∷ Eof ∷ []) token.kind || token.is_on_new_line

-- a cursor with one more error
abbrev pub with_error : CursorDiagnostic → CursorState → CursorState
with_error error c = record c { errors = c.errors ++ error ∷ [] }

-- The fatal error is kept with the number of errors of the lexer, which goes to the end of its text. The first one
-- stays.
abbrev pub with_fatal_error : CursorDiagnostic → CursorState → CursorState
with_fatal_error error c =
    if is_some c.fatal then c else
    record c {
      fatal = Some (record { error = error; errors_len = length c.lexer.findings.diagnostics });
      lexer = record c.lexer { place = length c.lexer.text };
    }

-- The cursor is as it was, but for decoded values that were added.
pub record IsAsBefore (old new : CursorState) : Type 0 where
  pub lexer : IsRestored old.lexer new.lexer
  pub decoded : Keeps old.lexer.decoded new.lexer.decoded
  pub others : new ≡ record old { lexer = new.lexer }

-- The cursor went on: the current token is what its lexer read for the goal, and the previous end is where the token
-- before it ended.
pub record ReadsOn (goal : Goal) (old new : CursorState) : Type 0 where
  pub read : ReadsToken goal old.lexer new.token new.lexer
  pub others : new ≡ record old { lexer = new.lexer; token = new.token; previous_end = old.token.end }

-- The new token starts behind the start of the old one, where that was not the end of the source.
abbrev pub StartsLater : CursorState → CursorState → Type 0
StartsLater old new = old.token.kind ≢ Eof → old.token.start < new.token.start

-- An escape in the current token is an error where the token is taken as a word of the language (ECMA-262 12.7.2).
abbrev pub noting_escape : Kind → CursorState → CursorState
noting_escape kind c =
    if c.token.escaped && is_name_kind kind then with_error (EscapedKeyword (span_of c.token)) c else c

-- The current token was taken as one of the kind, and the cursor went on to the next.
abbrev pub Advances : Kind → CursorState → CursorState → Type 0
Advances kind old new = ReadsOn Next (noting_escape kind old) new
