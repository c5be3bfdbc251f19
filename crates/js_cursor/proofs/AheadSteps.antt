-- What a look at tokens ahead tells.
use Rattle.std.proofs.Common.{◌≡◌, Bool, true, subst, Result, Ok}
use Rattle.std.specs.declared.alloc.AllocError.{AllocError}
use Rattle.js_kind.specs.declared.kind.Kind.{Kind}
use Rattle.js_cursor.specs.Ahead.{LooksAhead, LooksTwoAhead}
use Rattle.js_cursor.specs.Ahead.LooksTwoAhead.{then_second}
use Rattle.js_cursor.specs.Cursor.{CursorState, is_at}

-- a look at the first token that holds, and then at the second one
pub ahead_twice : (first second : Kind) (c between d : CursorState) (told : Bool) (answer : Result Bool AllocError)
    → told ≡ true → LooksAhead (is_at first) c (Ok told) between → LooksAhead (is_at second) between answer d
    → LooksTwoAhead first second c answer d
ahead_twice first second c between d told answer is_true seen then_seen =
    then_second between (subst (λ b. LooksAhead (is_at first) c (Ok b) between) is_true seen) then_seen
