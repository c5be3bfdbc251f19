use Rattle.std.proofs.Common.{◌≡◌, List, ◌++◌}
use Rattle.js_cursor.specs.Lists.{Given, GoesOn, IsSeparatedRound, LeadingOn, Rounds, left_to_read}
use Rattle.js_cursor.specs.Onward.{GoesOnIf}
use Rattle.js_cursor.proofs.cursor.Cursor.read_separated.Given as goal

-- What was read so far are rounds, their elements were added, and the cursor has gone on.
abbrev pub invariant-elements : goal.invariant-elements
invariant-elements g l =
    (more : List g.row.T.Denot)
    × Rounds (LeadingOn (IsSeparatedRound (Given g.F.FallibleElement.reads) l.close l.separator)) l.initial.f
    l.initial.self more l.f l.self
    × (l.elements.items ≡ l.initial.elements.items ++ more)
    × GoesOnIf (GoesOn g.F.FallibleElement.reads) l.initial.self l.self

-- No fatal error stands, and there is still text behind the current token.
abbrev pub decreases-elements : goal.decreases-elements
decreases-elements g l = left_to_read l.self
