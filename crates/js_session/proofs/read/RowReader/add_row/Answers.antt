use Rattle.std.proofs.Common.{◌∙◌, ap, subst}
use Rattle.std.specs.Prelude.{length}
use Rattle.js_lexer.specs.Lexer.{CanRewind, checkpoint_of}
use Rattle.js_lexer.proofs.LexerSteps.{reading_goes_on}
use Rattle.js_session.proofs.LexerLemmas.{can_rewind-on}
use Rattle.js_session.proofs.ReadLemmas.{goes_back_peeks}
use Rattle.js_session.proofs.read.RowReader.add_row.Goals as goal

pub go_back-requires : goal.go_back-requires
go_back-requires g c =
    let added = c.in-Ok.ensures.ok in
    can_rewind-on c.args.self.now.lexer c.read_on.new.self.lexer c.checkpoint-checkpoint.result
    (subst (λ r. CanRewind r.lexer c.checkpoint-checkpoint.result) c.self.view_is c.checkpoint-checkpoint.ensures.open)
    (reading_goes_on c.args.goal _ c.read_on.new.self.lexer added.row.token added.reads.reads)

pub go_back-requires-in-Err : goal.go_back-requires-in-Err
go_back-requires-in-Err g c =
    can_rewind-on c.args.self.now.lexer c.read_on.new.self.lexer c.checkpoint-checkpoint.result
    (subst (λ r. CanRewind r.lexer c.checkpoint-checkpoint.result) c.self.view_is c.checkpoint-checkpoint.ensures.open)
    c.in-Err.ensures.err.lexer

pub returns-then-is_peek-clause-ok : goal.returns-then-is_peek-clause-ok
returns-then-is_peek-clause-ok g c =
    rw c.if-is_peek.true
    (goes_back_peeks c.args.goal c.args.command c.args.self.now c.read_on.new.self c.go_back.new.self
    c.checkpoint-checkpoint.result c.len-live.result c.in-Ok.ensures.ok c.go_back.ensures
    (c.checkpoint-checkpoint.ensures.state ∙ ap (λ r. checkpoint_of r.lexer) c.self.view_is)
    (c.len-live.ensures ∙ ap (λ r. length r.tokens) c.self.view_is))
