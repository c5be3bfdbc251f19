use Rattle.std.proofs.Common.{sym, ◌∙◌}
use Rattle.js_lexer.proofs.ReadAgain.{part_again}
use Rattle.js_session.proofs.re_lex.read_tail.Goals as goal

pub returns-clause-ok : goal.returns-clause-ok
returns-clause-ok g c =
    let read = c.in_ok-token.ensures.ok in (
      sym c.may_read_again.ensures.answer ∙ c.if-not-may_read_again.false,
      record {
        reads = read;
        regex = (part_again c.args.lexer.now.text c.args.lexer.now.source_type c.args.lexer.now.last
            c.args.lexer.now.place read.outcome read.reads.reads).0;
      },
    )
