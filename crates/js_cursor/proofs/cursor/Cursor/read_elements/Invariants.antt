use Rattle.js_cursor.specs.Lists.{Given, GoesOn, IsRound, LeadingOn, Rounds, left_to_read}
use Rattle.js_cursor.specs.Onward.{GoesOnIf}
use Rattle.js_cursor.proofs.cursor.Cursor.read_elements.Given as goal

-- What was read so far are rounds, and the cursor has gone on.
abbrev pub invariant-loop-close : goal.invariant-loop-close
invariant-loop-close g l = record {
  rounds :
      Rounds (LeadingOn (IsRound (Given g.F.FallibleElement.reads) l.close)) l.initial.f l.initial.self l.elements.items
      l.f l.self;
  goes_on : GoesOnIf (GoesOn g.F.FallibleElement.reads) l.initial.self l.self;
}

-- No fatal error stands, and there is still text behind the current token.
abbrev pub decreases-loop-close : goal.decreases-loop-close
decreases-loop-close g l = left_to_read l.self
