use Rattle.std.proofs.Common.{sym, ap, ◌∙◌}
use Rattle.js_session.specs.declared.command.Effect.TheVariants.{Reads}
use Rattle.js_session.proofs.LexerLemmas.{on_err}
use Rattle.js_lists.proofs.DriveLemmas.{plain_is_next}
use Rattle.js_lists.proofs.TakenLemmas.{breaks_handed}
use Rattle.js_lists.proofs.chosen.follow_any.Goals as goal

pub returns-in_err-last-in-Reads-clause-err : goal.returns-in_err-last-in-Reads-clause-err
returns-in_err-last-in-Reads-clause-err g c =
    on_err c.from_residual-in_err-last-in-Reads.result
    (breaks_handed g.T.TakeTokens.takes g.T.TakeTokens.breaks_off c.args.lexer.now.decoded c.args.last.now
    c.args.taker.now c.hand_over.new.taker c.in_ok-hand_over-in-Reads.ensures.ok)

pub read_on-requires-clause-other : goal.read_on-requires-clause-other
read_on-requires-clause-other g c =
    λ plain. c.requires.other
    (plain_is_next c.args.command
    (sym c.effect.ensures ∙ c.in-Reads.is ∙ ap Reads plain))
