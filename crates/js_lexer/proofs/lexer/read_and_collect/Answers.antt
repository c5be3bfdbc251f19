use Rattle.std.proofs.lemmas.Result.{err_from_is_err_and}
use Rattle.js_lexer.proofs.LexerSteps.{reads_moves_on}
use Rattle.js_reader.proofs.ReadingSteps.{some_token_before}
use Rattle.js_lexer.proofs.lexer.read_and_collect.Goals as goal

pub returns-in_err-collect-clause-err : goal.returns-in_err-collect-clause-err
returns-in_err-collect-clause-err c =
    let p = err_from_is_err_and c.from_residual-in_err-collect.result c.from_residual-in_err-collect.ensures.1 in
    let before = some_token_before c.args.reader.now.line_has_ended in
    rw p.1 (reads_moves_on _ _ _ _ _ (c.in_ok-token.ensures.ok before.0 before.1).read)
