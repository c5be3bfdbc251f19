use Rattle.std.proofs.Common.{sym, ◌∙◌, subst}
use Rattle.js_cursor.specs.Cursor.{CursorState, HasByte}
use Rattle.js_cursor.proofs.CursorSteps.{goes_past_byte, kind_at}
use Rattle.js_cursor.proofs.cursor.Cursor.go_past.Goals as goal

pub returns-clause-some_text : goal.returns-clause-some_text
returns-clause-some_text g c =
    goes_past_byte c.args.separator c.args.self.now c.advance.new.self c.in_ok-advance.ensures.ok
    (subst (λ (s : CursorState). HasByte s.token) c.self.view_is c.self.invariant.some_text) c.requires.at
    c.requires.some

pub returns-clause-starts : goal.returns-clause-starts
returns-clause-starts g c =
    c.in_ok-advance.ensures.passed.starts
    (λ e. c.requires.some (sym (kind_at c.args.separator c.args.self.now c.requires.at) ∙ e))
