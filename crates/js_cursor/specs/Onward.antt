-- What a cursor keeps as it goes on, and what it has passed.
use Rattle.std.specs.Prelude.{◌≡◌, ◌≢◌, ◌<◌, ◌≤◌}
use Rattle.js_kind.specs.declared.kind.Kind.{Kind}
use Rattle.js_kind.specs.declared.kind.Kind.TheVariants.{Eof}
use Rattle.js_lexer.specs.Places.{KeepsPlaces, ReadsInPlaces, StaysInPlaces}
use Rattle.js_cursor.specs.Checkpoint.{GoesOnFrom}
use Rattle.js_cursor.specs.Cursor.{CursorState}

-- The cursor went on, and nothing of it goes back: neither the places for tokens, nor the start of the current token,
-- nor the end of the one before it.
pub record HasNotGoneBack (old new : CursorState) : Type 0 where
  pub places : ReadsInPlaces old.lexer new.lexer
  pub goes_on : GoesOnFrom old new
  pub start : old.token.start ≤ new.token.start
  pub previous : old.previous_end ≤ new.previous_end

-- The cursor went on, and has not advanced: the current token starts where it did, and so does the one before it end.
pub record HasNotAdvanced (old new : CursorState) : Type 0 where
  pub places : StaysInPlaces old.lexer new.lexer
  pub goes_on : GoesOnFrom old new
  pub start : new.token.start ≡ old.token.start
  pub previous : new.previous_end ≡ old.previous_end

-- A token of the kind was passed: the new one starts behind its start, if the kind is not that of the end of the
-- source, and the token before the new one ends there or behind it.
pub record HasPassed (kind : Kind) (old new : CursorState) : Type 0 where
  pub starts : kind ≢ Eof → old.token.start < new.token.start
  pub ends : old.token.start ≤ new.previous_end

-- No place for a token was given up; and the cursor went on, if what was called has always done so.
pub record GoesOnIf (others : Type 0) (old new : CursorState) : Type 0 where
  pub places : KeepsPlaces old.lexer new.lexer
  pub goes_on : others → GoesOnFrom old new
