use Rattle.std.proofs.Common.{sym, subst, get_or}
use Rattle.std.proofs.lemmas.Result.{on_err_weaker, on_ok_weaker}
use Rattle.js_grammar.specs.declared.goal.Goal.TheVariants.{First}
use Rattle.js_lexer.specs.Lexer.{ReadsToken}
use Rattle.js_session.specs.declared.command.Command.TheVariants.{Next}
use Rattle.js_session.proofs.LexerLemmas.{on_err}
use Rattle.js_lists.proofs.FollowLemmas.{Following, following_back, following_behind, following_ends, following_held}
use Rattle.js_lists.proofs.FollowLemmas.{following_marks, following_next, following_starts, is_next}
use Rattle.js_lists.proofs.TakenLemmas.{breaks_later, taken_backward}
use Rattle.js_lists.proofs.steps.follow_each.Goals as goal

pub loop-command-init : goal.loop-command-init
loop-command-init g c =
    let l = c.args.lexer.now in
    subst (Following g.T.TakeTokens.takes l.text l.source_type c.args.commands.now 0 c.args.taker.now c.args.taker.now
    c.first_token.new.self) (sym c.behind-pending.ensures)
    (following_starts g.T.TakeTokens.takes l.text l.source_type c.args.commands.now c.args.taker.now
    c.first_token.new.self c.in_ok-token.token c.requires.utf8
    (subst (λ old. ReadsToken First old c.in_ok-token.token c.first_token.new.self) c.requires.unread
    c.in_ok-token.ensures.ok))

pub follow-requires-clause-behind : goal.follow-requires-clause-behind
follow-requires-clause-behind g c =
    let l = c.args.lexer.now in
    following_behind g.T.TakeTokens.takes l.text l.source_type c.args.commands.now c.loop-command.command-index
    c.args.taker.now c.loop-command.taker c.loop-command.lexer c.loop-command.pending c.loop-command.invariant

pub follow-requires-clause-mark : goal.follow-requires-clause-mark
follow-requires-clause-mark g c =
    let l = c.args.lexer.now in
    let index = c.loop-command.command-index in
    following_marks g.T.TakeTokens.takes l.text l.source_type c.args.commands.now index
    (get_or c.args.commands.now index Next) c.args.taker.now c.loop-command.taker c.loop-command.lexer
    c.loop-command.pending (is_next c.args.commands.now index Next c.loop-command-test.true) c.requires.marks
    c.loop-command.invariant

pub follow-requires-clause-back : goal.follow-requires-clause-back
follow-requires-clause-back g c =
    let l = c.args.lexer.now in
    following_back g.T.TakeTokens.takes l.text l.source_type c.args.commands.now c.loop-command.command-index
    c.args.taker.now c.loop-command.taker c.loop-command.lexer c.loop-command.pending c.loop-command.invariant

pub follow-requires-clause-held : goal.follow-requires-clause-held
follow-requires-clause-held g c =
    let l = c.args.lexer.now in
    following_held g.T.TakeTokens.takes l.text l.source_type c.args.commands.now c.loop-command.command-index
    c.args.taker.now c.loop-command.taker c.loop-command.lexer c.loop-command.pending c.loop-command.invariant

pub loop-command-preserved : goal.loop-command-preserved
loop-command-preserved g c =
    let l = c.args.lexer.now in
    let index = c.loop-command.command-index in
    following_next g.T.TakeTokens.takes l.text l.source_type c.args.commands.now index
    (get_or c.args.commands.now index Next) c.args.taker.now c.loop-command.taker c.follow.new.taker
    c.loop-command.lexer c.follow.new.lexer c.loop-command.pending c.follow.new.pending c.requires.utf8
    (is_next c.args.commands.now index Next c.loop-command-test.true) c.requires.marks c.loop-command.invariant
    c.in_ok-follow.ensures.ok

-- there was no memory for a command
pub returns-in_err-follow-clause-err : goal.returns-in_err-follow-clause-err
returns-in_err-follow-clause-err g c =
    on_err c.from_residual-in_err-follow.result
    (breaks_later g.T.TakeTokens.takes g.T.TakeTokens.breaks_off (taken_backward c.loop-command.invariant.handed)
    c.args.taker.now c.loop-command.taker c.follow.new.taker c.loop-command.invariant.taken
    c.in_err-follow.ensures.err)

pub hand_all-requires : goal.hand_all-requires
hand_all-requires g c =
    let l = c.args.lexer.now in
    following_held g.T.TakeTokens.takes l.text l.source_type c.args.commands.now c.loop-command.command-index
    c.args.taker.now c.loop-command.taker c.loop-command.lexer c.loop-command.pending c.loop-command.invariant

pub returns-clause-ok : goal.returns-clause-ok
returns-clause-ok g c =
    let l = c.args.lexer.now in
    on_ok_weaker c.hand_all.result
    (following_ends g.T.TakeTokens.takes l.text l.source_type c.args.commands.now c.loop-command.command-index
    c.args.taker.now c.loop-command.taker c.hand_all.new.taker c.loop-command.lexer c.loop-command.pending
    c.requires.utf8 c.requires.short c.loop-command-test.false c.loop-command.invariant)
    c.hand_all.ensures.ok

pub returns-clause-err : goal.returns-clause-err
returns-clause-err g c =
    on_err_weaker c.hand_all.result
    (breaks_later g.T.TakeTokens.takes g.T.TakeTokens.breaks_off (taken_backward c.loop-command.invariant.handed)
    c.args.taker.now c.loop-command.taker c.hand_all.new.taker c.loop-command.invariant.taken)
    c.hand_all.ensures.err
