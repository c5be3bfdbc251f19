use Rattle.std.proofs.Common.{sym, ◌∙◌}
use Rattle.js_grammar.specs.Angle.{right_angles}
use Rattle.js_lexer.proofs.ReadAgain.{angle_again, angles_are_none}
use Rattle.js_session.proofs.re_lex.read_right_angle.Goals as goal

pub returns : goal.returns
returns g c =
    let read = c.re_lex_right_angle-token.ensures.token in (
      sym c.may_read_again.ensures.answer ∙ c.if-not-may_read_again.false,
      record {
        reads = read;
        regex = (angle_again _ right_angles _ read.outcome angles_are_none.longest read.reads.reads).0;
      },
    )
