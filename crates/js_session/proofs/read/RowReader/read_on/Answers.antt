use Rattle.std.proofs.Common.{refl, ◌∙◌, ap, take, length, [], ◌∷◌}
use Rattle.std.proofs.Math.Seq.{take-length, take-append_seam}
use Rattle.std.proofs.lemmas.Result.{err_from_is_err_and, on_err_weaker, on_ok_weaker}
use Rattle.js_lexer.proofs.LexerSteps.{reading_goes_on}
use Rattle.js_session.proofs.read.RowReader.read_on.Goals as goal

pub returns-in_err-push-clause-err : goal.returns-in_err-push-clause-err
returns-in_err-push-clause-err g c =
    let p = err_from_is_err_and c.from_residual-in_err-push.result c.from_residual-in_err-push.ensures.1 in
    rw (p.1, ← c.self.view_is, c.in_err-push.ensures.err) (record {
      lexer =
          reading_goes_on _ c.self.inside.lexer c.read_row.new.lexer c.in_ok-row.row.token c.in_ok-row.ensures.ok.reads;
      rows = refl;
      tokens = take-length c.self.inside.tokens;
    })

pub returns-clause-err : goal.returns-clause-err
returns-clause-err g c =
    on_err_weaker c.push-2.result
    (λ same. rw (← c.self.view_is) (record {
      lexer =
          reading_goes_on _ c.self.inside.lexer c.read_row.new.lexer c.in_ok-row.row.token c.in_ok-row.ensures.ok.reads;
      rows = same;
      tokens =
          ap (take (length c.self.inside.tokens)) c.in_ok-push.ensures.ok
          ∙ take-append_seam c.self.inside.tokens (c.in_ok-row.row.token ∷ []);
    }))
    c.push-2.ensures.err

pub returns-clause-ok : goal.returns-clause-ok
returns-clause-ok g c =
    on_ok_weaker c.push-2.result
    (λ pushed. rw (← c.self.view_is) (record {
      row = c.in_ok-row.row;
      reads = c.in_ok-row.ensures.ok;
      rows = pushed;
      tokens = c.in_ok-push.ensures.ok;
    }))
    c.push-2.ensures.ok
