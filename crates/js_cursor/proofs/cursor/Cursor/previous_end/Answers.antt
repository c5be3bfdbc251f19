use Rattle.std.proofs.Common.{◌≤◌, rules, subst}
use Rattle.js_cursor.specs.Cursor.{CursorState}
use Rattle.js_cursor.proofs.cursor.Cursor.previous_end.Goals as goal

pub returns-clause-end : goal.returns-clause-end
returns-clause-end g c = search rules

pub returns-clause-before : goal.returns-clause-before
returns-clause-before g c =
    rw (returns-clause-end g c)
    (subst (λ (s : CursorState). s.previous_end ≤ s.token.start) c.self.view_is c.self.invariant.previous)
