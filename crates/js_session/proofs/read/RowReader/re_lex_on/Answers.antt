use Rattle.std.proofs.Common.{refl, sym, subst}
use Rattle.std.proofs.Math.Seq.{take-length}
use Rattle.std.proofs.lemmas.Result.{err_from_is_err_and, on_err_weaker}
use Rattle.js_lexer.specs.Lexer.{GoesOnFrom}
use Rattle.js_lexer.proofs.LexerSteps.{re_lexing_goes_on}
use Rattle.js_session.specs.RowReader.{ReadsRowIfFits}
use Rattle.js_session.proofs.LexerLemmas.{goes_on-restored, restored-refl}
use Rattle.js_session.proofs.read.RowReader.re_lex_on.Goals as goal

pub returns-in_err-push-in-Some-clause-err : goal.returns-in_err-push-in-Some-clause-err
returns-in_err-push-in-Some-clause-err g c =
    let p =
    err_from_is_err_and c.from_residual-in_err-push-in-Some.result c.from_residual-in_err-push-in-Some.ensures.1 in
    let found =
    subst (λ f. ReadsRowIfFits c.args.goal c.args.command c.self.inside.lexer f c.read_row_again.new.lexer) c.in-Some.is
    c.in_ok-row.ensures.ok in
    rw (p.1, ← c.self.view_is, c.in_err-push-in-Some.ensures.err) (record {
      lexer =
          re_lexing_goes_on _ c.self.inside.lexer c.read_row_again.new.lexer c.in-Some.row.token found.1.reads;
      rows = refl;
      tokens = take-length c.self.inside.tokens;
    })

pub returns-in-None-clause-err : goal.returns-in-None-clause-err
returns-in-None-clause-err g c =
    let none =
    subst (λ f. ReadsRowIfFits c.args.goal c.args.command c.self.inside.lexer f c.read_row_again.new.lexer) c.in-None.is
    c.in_ok-row.ensures.ok in
    on_err_weaker c.push-in-None.result
    (λ same. rw (← c.self.view_is) (record {
      lexer =
          subst (GoesOnFrom c.self.inside.lexer) (sym none.1)
          (goes_on-restored _ _ (restored-refl c.self.inside.lexer));
      rows = same;
      tokens = take-length c.self.inside.tokens;
    }))
    c.push-in-None.ensures.err
