use Rattle.std.proofs.Common.{ap}
use Rattle.js_lexer.specs.Lexer.{LexerState}
use Rattle.js_cursor.proofs.TokenSteps.{on_same}
use Rattle.js_cursor.proofs.cursor.Cursor.mark_no_side_effects_comments_applied.Goals as goal

pub invariant_of-self : goal.invariant_of-self
invariant_of-self g c =
    on_same _ c.self.inside.lexer _ _ _ c.self.invariant (ap (λ (l : LexerState). l.text) c.mark_no_side_effects_comments_applied.ensures)
    (ap (λ (l : LexerState). l.last) c.mark_no_side_effects_comments_applied.ensures) (ap (λ (l : LexerState). l.place) c.mark_no_side_effects_comments_applied.ensures)
