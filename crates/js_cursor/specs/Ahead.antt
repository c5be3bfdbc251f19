-- What a look at tokens ahead tells.
use Rattle.std.specs.Prelude.{◌≡◌, ◌&&◌, Bool, true, false, not, Result, Ok, Err}
use Rattle.std.specs.declared.alloc.AllocError.{AllocError}
use Rattle.js_kind.specs.declared.kind.Kind.{Kind}
use Rattle.js_cursor.specs.Cursor.{CursorState, Advances, IsAsBefore, is_at}

-- The cursor went on to the next token, and the test tells the answer; or there was no memory, and it is as before.
abbrev pub LooksAhead : (CursorState → Bool) → CursorState → Result Bool AllocError → CursorState → Type 0
LooksAhead test c (Ok answer) d = Advances c.token.kind c d × (answer ≡ test d)
LooksAhead test c (Err error) d = IsAsBefore c d

-- the current token is of the kind, and on the line of the token before it
abbrev pub is_at_on_same_line : Kind → CursorState → Bool
is_at_on_same_line kind c = is_at kind c && not c.token.is_on_new_line

-- The next token is not of the first kind, or there was no memory to read it; or it is, and the one behind it tells the
-- answer.
pub data LooksTwoAhead (first second : Kind) (c : CursorState) (answer : Result Bool AllocError) (d : CursorState)
    : Type 0 where
  not_first : LooksAhead (is_at first) c (Ok false) d → answer ≡ Ok false → LooksTwoAhead first second c answer d
  no_memory : (error : AllocError) → LooksAhead (is_at first) c (Err error) d → answer ≡ Err error
      → LooksTwoAhead first second c answer d
  then_second : (between : CursorState) → LooksAhead (is_at first) c (Ok true) between
      → LooksAhead (is_at second) between answer d → LooksTwoAhead first second c answer d
