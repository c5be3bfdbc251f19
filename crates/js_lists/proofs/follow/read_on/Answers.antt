use Rattle.std.proofs.Common.{refl}
use Rattle.js_session.proofs.LexerLemmas.{on_err}
use Rattle.js_lists.proofs.HandedLemmas.{breaks_settled}
use Rattle.js_lists.proofs.follow.read_on.Goals as goal

pub returns-in_err-token-clause-err : goal.returns-in_err-token-clause-err
returns-in_err-token-clause-err g c =
    on_err c.from_residual-in_err-token.result
    (breaks_settled g.T.TakeTokens.takes g.T.TakeTokens.breaks_off c.args.lexer.now.decoded c.args.pending.now.marks
    c.args.pending.now c.settle.new.self c.args.taker.now c.settle.new.taker c.in_ok-settle.ensures.ok)

pub returns-clause-ok : goal.returns-clause-ok
returns-clause-ok g c = record {
  settled = c.settle.new.self;
  settles = c.in_ok-settle.ensures.ok;
  reads = c.in_ok-token.ensures;
  regex = refl;
  rest = refl;
}
