use Rattle.std.proofs.Common.{[], sym, ◌∙◌, ap, refl}
use Rattle.std.proofs.lemmas.Result.{on_ok_weaker}
use Rattle.js_lists.specs.declared.pending.Pending.{Pending}
use Rattle.js_session.proofs.LexerLemmas.{on_err}
use Rattle.js_lists.proofs.HandedLemmas.{settles_all, settles_none}
use Rattle.js_lists.proofs.TakenLemmas.{breaks_here}
use Rattle.js_lists.proofs.pending.Pending.settle.Goals as goal

pub returns-in_ok-hand_all-clause-ok : goal.returns-in_ok-hand_all-clause-ok
returns-in_ok-hand_all-clause-ok g c =
    let p : Pending = c.args.self.now in
    settles_all g.T.TakeTokens.takes c.args.lexer.now.decoded p.marks p _ c.args.taker.now c.hand_all.new.taker
    (sym c.is_empty.ensures ∙ c.if-is_empty.true) c.in_ok-hand_all.ensures.ok
    (ap (λ w. record p { waiting = w }) c.truncate.ensures)

pub returns-else-is_empty-clause-ok : goal.returns-else-is_empty-clause-ok
returns-else-is_empty-clause-ok g c =
    let p : Pending = c.args.self.now in
    on_ok_weaker c.push.result
    (λ pushed. settles_none g.T.TakeTokens.takes c.args.lexer.now.decoded p.marks p _ c.args.taker.now c.args.taker.now
    (sym c.is_empty.ensures ∙ c.if-is_empty.false) refl (ap (λ w. record p { waiting = w }) pushed))
    c.push.ensures.ok

pub returns-else-is_empty-clause-err : goal.returns-else-is_empty-clause-err
returns-else-is_empty-clause-err g c =
    on_err c.push.result
    (breaks_here g.T.TakeTokens.takes g.T.TakeTokens.breaks_off [] c.args.taker.now c.args.taker.now refl)
