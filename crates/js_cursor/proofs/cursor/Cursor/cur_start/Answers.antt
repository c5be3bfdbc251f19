use Rattle.std.proofs.Common.{◌≤◌, rules, subst}
use Rattle.js_cursor.specs.Cursor.{CursorState}
use Rattle.js_cursor.proofs.cursor.Cursor.cur_start.Goals as goal

pub returns-clause-start : goal.returns-clause-start
returns-clause-start g c = search rules

pub returns-clause-behind : goal.returns-clause-behind
returns-clause-behind g c =
    rw (returns-clause-start g c)
    (subst (λ (s : CursorState). s.previous_end ≤ s.token.start) c.self.view_is c.self.invariant.previous)
