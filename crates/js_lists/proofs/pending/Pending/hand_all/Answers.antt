use Rattle.std.proofs.Common.{sym, subst}
use Rattle.std.proofs.lemmas.Result.{on_err_weaker, on_ok_weaker}
use Rattle.std.specs.List.{AllByRecursion}
use Rattle.js_lists.specs.Drive.{IsHeld}
use Rattle.js_lists.specs.Steps.{HandsEach}
use Rattle.js_lists.proofs.HandedLemmas.{breaks_each, hands_more}
use Rattle.js_lists.proofs.pending.Pending.hand_all.Goals as goal

pub hand_each-requires : goal.hand_each-requires
hand_each-requires g c =
    subst (AllByRecursion (IsHeld c.args.lexer.now.decoded)) (sym c.as_slice.ensures) c.requires.waiting

pub returns-clause-ok : goal.returns-clause-ok
returns-clause-ok g c =
    let decoded = c.args.lexer.now.decoded in
    on_ok_weaker c.hand_over.result
    (hands_more g.T.TakeTokens.takes decoded c.args.self.now.waiting c.args.self.now.last c.args.taker.now
    c.hand_each.new.taker c.hand_over.new.taker
    (subst (λ xs. HandsEach g.T.TakeTokens.takes decoded xs c.args.taker.now c.hand_each.new.taker) c.as_slice.ensures
    c.in_ok-hand_each.ensures.ok))
    c.hand_over.ensures.ok

pub returns-clause-err : goal.returns-clause-err
returns-clause-err g c =
    on_err_weaker c.hand_over.result
    (breaks_each g.T.TakeTokens.takes g.T.TakeTokens.breaks_off c.args.lexer.now.decoded c.as_slice.result.now
    c.args.taker.now c.hand_each.new.taker c.hand_over.new.taker c.in_ok-hand_each.ensures.ok)
    c.hand_over.ensures.err
