use Rattle.std.proofs.Common.{sym, ◌∙◌}
use Rattle.js_session.proofs.re_lex.read_regex.Goals as goal

pub returns-clause-ok : goal.returns-clause-ok
returns-clause-ok g c =
    let read = c.in_ok-found.ensures.ok in (
      sym c.may_read_again.ensures.answer ∙ c.if-not-may_read_again.false,
      record { reads = read.again; regex = read.info },
    )
