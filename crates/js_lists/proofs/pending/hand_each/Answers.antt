use Rattle.std.proofs.Common.{take}
use Rattle.js_session.proofs.LexerLemmas.{on_err}
use Rattle.js_lists.proofs.HandedLemmas.{breaks_each, hands_end, hands_step, held_at}
use Rattle.js_lists.proofs.pending.hand_each.Goals as goal

pub hand_over-requires : goal.hand_over-requires
hand_over-requires g c =
    held_at c.args.lexer.now.decoded c.args.tokens.now c.loop-token.token-index c.token-item.result
    c.requires c.loop-token-test.true c.token-item.is

pub loop-token-preserved : goal.loop-token-preserved
loop-token-preserved g c =
    hands_step g.T.TakeTokens.takes c.args.lexer.now.decoded c.args.tokens.now c.loop-token.token-index
    c.token-item.result c.args.taker.now c.loop-token.taker c.hand_over.new.taker c.loop-token-test.true c.token-item.is
    c.loop-token.invariant
    c.in_ok-hand_over.ensures.ok

pub returns-in_err-hand_over-clause-err : goal.returns-in_err-hand_over-clause-err
returns-in_err-hand_over-clause-err g c =
    on_err c.from_residual.result
    (breaks_each g.T.TakeTokens.takes g.T.TakeTokens.breaks_off c.args.lexer.now.decoded
    (take c.loop-token.token-index c.args.tokens.now) c.args.taker.now c.loop-token.taker c.hand_over.new.taker
    c.loop-token.invariant c.in_err-hand_over.ensures.err)

pub returns-clause-ok : goal.returns-clause-ok
returns-clause-ok g c =
    hands_end g.T.TakeTokens.takes c.args.lexer.now.decoded c.args.tokens.now c.loop-token.token-index
    c.args.taker.now c.loop-token.taker c.loop-token-test.false c.loop-token.invariant
