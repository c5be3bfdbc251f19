use Rattle.std.proofs.Common.{rules, subst}
use Rattle.js_cursor.specs.Checkpoint.{GoesOnFrom}
use Rattle.js_cursor.proofs.CursorSteps.{can_rewind-on}
use Rattle.js_cursor.proofs.GoesOn.{goes_on_without_fatal_error}
use Rattle.js_cursor.proofs.TokenSteps.{before_in_its_place}
use Rattle.js_cursor.proofs.cursor.Cursor.lookahead.Goals as goal

pub rewind-requires : goal.rewind-requires
rewind-requires g c =
    can_rewind-on c.checkpoint-checkpoint.new.self c.test-answer.new.cursor c.checkpoint-checkpoint.result
    c.checkpoint-checkpoint.ensures.open c.test-answer.ensures.goes_on

pub returns-clause-no_trace : goal.returns-clause-no_trace
returns-clause-no_trace g c =
    c.rewind.ensures.restores c.args.self.now c.checkpoint-checkpoint.ensures.state
    (goes_on_without_fatal_error c.args.self.now c.test-answer.new.cursor
    (subst (λ s. GoesOnFrom s c.test-answer.new.cursor) c.checkpoint-checkpoint.ensures.taken
    c.test-answer.ensures.goes_on))

pub returns-clause-stays : goal.returns-clause-stays
returns-clause-stays g c = before_in_its_place c.args.self.now _ (search rules) (returns-clause-no_trace g c)
