use Rattle.std.proofs.Common.{ap, subst}
use Rattle.std.proofs.lemmas.Result.{err_from_is_err_and}
use Rattle.js_lexer.specs.Lexer.{Checkpoint}
use Rattle.js_lexer.proofs.LexerSteps.{re_lexing_goes_on}
use Rattle.js_session.specs.RowReader.{ReadsIfFits}
use Rattle.js_session.proofs.LexerLemmas.{goes_on-restored}
use Rattle.js_session.proofs.ReadLemmas.{made_row_again}
use Rattle.js_session.proofs.read.read_row_again.Goals as goal

pub returns-in_err-again-clause-err : goal.returns-in_err-again-clause-err
returns-in_err-again-clause-err g c =
    let p = err_from_is_err_and c.from_residual.result c.from_residual.ensures.1 in
    rw p.1 (goes_on-restored _ _ c.in_err-again.ensures.err)

pub returns-in_err-row-in-Some-clause-err : goal.returns-in_err-row-in-Some-clause-err
returns-in_err-row-in-Some-clause-err g c =
    let p =
    err_from_is_err_and c.from_residual-in_err-row-in-Some.result c.from_residual-in_err-row-in-Some.ensures.1 in
    let found =
    subst (λ f. ReadsIfFits c.args.goal c.args.lexer.now f c.read_again.new.lexer) c.in-Some.is c.in_ok-again.ensures.ok
    in
    rw p.1
    (re_lexing_goes_on c.args.goal c.args.lexer.now c.read_again.new.lexer c.in-Some.again.token found.1.reads)

pub returns-in_ok-row-in-Some-clause-ok : goal.returns-in_ok-row-in-Some-clause-ok
returns-in_ok-row-in-Some-clause-ok g c =
    let found =
    subst (λ f. ReadsIfFits c.args.goal c.args.lexer.now f c.read_again.new.lexer) c.in-Some.is c.in_ok-again.ensures.ok
    in (
      found.0,
      made_row_again c.args.goal c.args.command c.args.lexer.now c.read_again.new.lexer c.args.before.now.lengths
          c.offset-place.result c.in-Some.again c.offset-place.ensures.utf8 found.1
          (ap (λ (x : Checkpoint). x.lengths) c.requires.before) c.offset-place.ensures.place
          c.in_ok-row-in-Some.row c.in_ok-row-in-Some.ensures,
    )
