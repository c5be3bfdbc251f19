use Rattle.std.proofs.Common.{ap}
use Rattle.js_lexer.specs.Lexer.{Checkpoint}
use Rattle.js_cursor.proofs.TokenSteps.{of_checkpoint}
use Rattle.js_cursor.proofs.cursor.Cursor.checkpoint.Goals as goal

pub invariant_of-result : goal.invariant_of-result
invariant_of-result g c =
    of_checkpoint _ c.self.inside.lexer _ _ _ c.self.invariant
    (ap (λ (to : Checkpoint). to.last) c.checkpoint.ensures.state)
    (ap (λ (to : Checkpoint). to.place) c.checkpoint.ensures.state)
