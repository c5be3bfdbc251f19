use Rattle.std.proofs.Common.{sym, ◌∙◌}
use Rattle.js_grammar.specs.Angle.{first_left_angle}
use Rattle.js_lexer.proofs.ReadAgain.{angle_again, angles_are_none}
use Rattle.js_session.proofs.re_lex.read_first_left.Goals as goal

pub returns : goal.returns
returns g c =
    let read = c.re_lex_as_typescript_l_angle-token.ensures.token in (
      sym c.may_read_again.ensures.answer ∙ c.if-not-may_read_again.false,
      record {
        reads = read;
        regex = (angle_again _ first_left_angle _ read.outcome angles_are_none.left read.reads.reads).0;
      },
    )
