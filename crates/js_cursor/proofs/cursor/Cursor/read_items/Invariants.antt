use Rattle.std.proofs.Common.{◌≡◌, List, ◌++◌}
use Rattle.js_kind.specs.declared.kind.Kind.TheVariants.{Comma}
use Rattle.js_cursor.specs.Lists.{Given, GoesOn, IsSeparatedRound, LeadingOn, Rounds, left_to_read}
use Rattle.js_cursor.specs.Onward.{GoesOnIf}
use Rattle.js_cursor.specs.Rests.{Item, ReadsItem, elements}
use Rattle.js_cursor.specs.RestSteps.{readers_of}
use Rattle.js_cursor.proofs.cursor.Cursor.read_items.Given as goal

-- What was read so far are rounds, their elements were added, and the cursor has gone on.
abbrev pub invariant-items : goal.invariant-items
invariant-items g l =
    (more : List (Item g.row.A.Denot g.row.R.Denot))
    × Rounds (LeadingOn (IsSeparatedRound (ReadsItem (Given g.E.FallibleElement.reads) (Given
    g.P.FallibleElement.reads)) l.close Comma))
    (readers_of l.initial.items) l.initial.self more (readers_of l.items) l.self
    × (l.items.elements.items ≡ l.initial.items.elements.items ++ elements more)
    × GoesOnIf (GoesOn g.E.FallibleElement.reads × GoesOn g.P.FallibleElement.reads) l.initial.self l.self

-- No fatal error stands, and there is still text behind the current token.
abbrev pub decreases-items : goal.decreases-items
decreases-items g l = left_to_read l.self
