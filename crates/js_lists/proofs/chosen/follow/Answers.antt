use Rattle.js_session.proofs.LexerLemmas.{on_err}
use Rattle.js_lists.proofs.TakenLemmas.{breaks_handed}
use Rattle.js_lists.proofs.chosen.follow.Goals as goal

pub returns-in_ok-hand_over_settled-in-Next-clause-err : goal.returns-in_ok-hand_over_settled-in-Next-clause-err
returns-in_ok-hand_over_settled-in-Next-clause-err g c =
    on_err c.read_next.result
    (breaks_handed g.T.TakeTokens.takes g.T.TakeTokens.breaks_off c.args.lexer.now.decoded c.args.last.now
    c.args.taker.now c.hand_over_settled.new.taker c.in_ok-hand_over_settled-in-Next.ensures.ok)
