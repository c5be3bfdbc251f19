use Rattle.std.proofs.Common.{subst}
use Rattle.js_lexer.specs.Lexer.{CanRewind}
use Rattle.js_session.proofs.LexerLemmas.{can_rewind-on}
use Rattle.js_session.proofs.read.RowReader.re_lex.Goals as goal

pub go_back-requires : goal.go_back-requires
go_back-requires g c =
    can_rewind-on c.args.self.now.lexer c.re_lex_on.new.self.lexer c.checkpoint-checkpoint.result
    (subst (λ r. CanRewind r.lexer c.checkpoint-checkpoint.result) c.self.view_is c.checkpoint-checkpoint.ensures.open)
    c.in-Err.ensures.err.lexer
