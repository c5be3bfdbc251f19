use Rattle.std.proofs.Common.{ap}
use Rattle.js_lexer.specs.Lexer.{LexerState}
use Rattle.js_cursor.proofs.TokenSteps.{on_same}
use Rattle.js_cursor.proofs.cursor.Cursor.pop_error.Goals as goal

pub invariant_of-self : goal.invariant_of-self
invariant_of-self g c =
    on_same _ c.self.inside.lexer _ _ _ c.self.invariant (ap (λ (l : LexerState). l.text) c.pop_error.ensures.after)
    (ap (λ (l : LexerState). l.last) c.pop_error.ensures.after) (ap (λ (l : LexerState). l.place) c.pop_error.ensures.after)
