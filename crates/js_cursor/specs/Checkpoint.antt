-- Checkpoints of a cursor, and what speculation keeps.
use Rattle.std.specs.Prelude.{◌≡◌, ℕ, ◌≤◌, List, ◌++◌, length, take, Option, Some, None}
use Rattle.js_text.specs.declared.diagnostic.Diagnostic.{Diagnostic}
use Rattle.js_kind.specs.TokenParts.{TokenParts}
use Rattle.js_reader.specs.Decoded.{Keeps}
use Rattle.js_lexer.specs.Lexer as of_lexer
use Rattle.js_cursor.specs.Cursor.{CursorState, HasByte}
use Rattle.js_cursor.specs.declared.diagnostic.CursorDiagnostic.{CursorDiagnostic}
use Rattle.js_cursor.specs.declared.diagnostic.FatalError.{FatalError}

-- A checkpoint: that of the lexer, the current token, where the one before it ended, how many errors there were, and
-- the fatal error, if there was one.
pub record CursorCheckpoint : Type 0 where
  pub lexer : of_lexer.Checkpoint
  pub token : TokenParts
  pub previous_end : ℕ
  pub errors : ℕ
  pub fatal : Option FatalError

-- The token of a checkpoint is the last one of the lexer's, up to its place at most; the token before it ended no later
-- than it starts.
pub record IsOfToken (lexer : of_lexer.Checkpoint) (token : TokenParts) (previous_end : ℕ) : Type 0 where
  pub last : lexer.last ≡ Some token
  pub some_text : HasByte token
  pub ordered : token.start ≤ token.end
  pub is_read : token.end ≤ lexer.place
  pub previous : previous_end ≤ token.start

abbrev pub checkpoint_of : CursorState → CursorCheckpoint
checkpoint_of c = record {
  lexer = of_lexer.checkpoint_of c.lexer;
  token = c.token;
  previous_end = c.previous_end;
  errors = length c.errors;
  fatal = c.fatal;
}

-- the same, with a copy of what the lexer had reported
abbrev pub checkpoint_with_errors_of : CursorState → CursorCheckpoint
checkpoint_with_errors_of c = record (checkpoint_of c) { lexer = of_lexer.checkpoint_with_errors_of c.lexer }

-- a cursor whose fatal error was taken
abbrev pub without_fatal_error : CursorState → CursorState
without_fatal_error c = record c { fatal = None }

-- a cursor whose lexer has reported these diagnostics, as where some were taken back
abbrev pub with_diagnostics : List Diagnostic → CursorState → CursorState
with_diagnostics diagnostics c = record c { lexer = of_lexer.with_diagnostics diagnostics c.lexer }

-- The cursor may go back to the checkpoint: its lexer may, and it has no fewer errors than there were.
pub record CanRewind (c : CursorState) (to : CursorCheckpoint) : Type 0 where
  pub lexer : of_lexer.CanRewind c.lexer to.lexer
  pub errors : to.errors ≤ length c.errors

-- the cursor, back at the checkpoint
abbrev pub rewound : CursorState → CursorCheckpoint → CursorState
rewound c to = record c {
  lexer = of_lexer.rewound c.lexer to.lexer;
  token = to.token;
  previous_end = to.previous_end;
  errors = take to.errors c.errors;
  fatal = to.fatal;
}

-- The cursor went on from an earlier state: it has the same source and configuration, and each list begins with the
-- earlier one, the last collected token aside.
pub record GoesOnFrom (old now : CursorState) : Type 0 where
  pub lexer : of_lexer.GoesOnFrom old.lexer now.lexer
  pub decoded : Keeps old.lexer.decoded now.lexer.decoded
  pub ambient : now.ambient ≡ old.ambient
  pub more : List CursorDiagnostic
  pub errors : now.errors ≡ old.errors ++ more
