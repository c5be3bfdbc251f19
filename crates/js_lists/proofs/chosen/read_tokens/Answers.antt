use Rattle.std.proofs.Common.{[], sym, subst}
use Rattle.std.proofs.lemmas.Result.{on_err_weaker, on_ok_weaker}
use Rattle.js_grammar.specs.declared.goal.Goal.TheVariants.{First}
use Rattle.js_lexer.specs.Lexer.{ReadsToken}
use Rattle.js_session.proofs.LexerLemmas.{on_err}
use Rattle.js_lists.proofs.ChosenLemmas.{reading_ends, reading_falls, reading_follows, reading_held, reading_may}
use Rattle.js_lists.proofs.ChosenLemmas.{reading_starts}
use Rattle.js_lists.proofs.TakenLemmas.{breaks_behind, breaks_later, taken_backward}
use Rattle.js_lists.proofs.chosen.read_tokens.Goals as goal

pub loop-command-init : goal.loop-command-init
loop-command-init g c =
    let l = c.args.lexer.now in
    reading_starts g.T.TakeTokens.takes g.G.ChooseGoals.choice (g.G.ChooseGoals.is_told c.read_on.new.chooser)
    c.args.text.now l.source_type c.args.taker.now c.read_on.new.lexer c.in_ok-last.last c.requires.utf8
    (subst (λ old. ReadsToken First old c.in_ok-last.last.token c.read_on.new.lexer) c.requires.unread
    c.in_ok-last.ensures.read) c.in_ok-last.ensures.regex
    (c.in_ok-last.ensures.told [] c.new-chooser.ensures)

pub follow-requires-clause-may : goal.follow-requires-clause-may
follow-requires-clause-may g c =
    reading_may g.T.TakeTokens.takes g.G.ChooseGoals.choice (g.G.ChooseGoals.is_told c.loop-command.chooser)
    c.args.text.now c.args.lexer.now.source_type c.args.taker.now c.loop-command.taker c.loop-command.lexer
    c.loop-command.last c.in-Some.command g.met.G.ChooseGoals.is_rule c.requires.utf8 c.loop-command.invariant
    (sym (c.in-Some.ensures c.loop-command.invariant.session.state.now.tokens c.loop-command.invariant.is_told))

pub follow-requires-clause-held : goal.follow-requires-clause-held
follow-requires-clause-held g c =
    reading_held g.T.TakeTokens.takes g.G.ChooseGoals.choice (g.G.ChooseGoals.is_told c.loop-command.chooser)
    c.args.text.now c.args.lexer.now.source_type c.args.taker.now c.loop-command.taker c.loop-command.lexer
    c.loop-command.last c.loop-command.invariant

pub loop-command-preserved : goal.loop-command-preserved
loop-command-preserved g c =
    reading_follows g.T.TakeTokens.takes g.G.ChooseGoals.is_told g.G.ChooseGoals.choice c.args.text.now
    c.args.lexer.now.source_type c.args.taker.now c.loop-command.taker c.follow.new.taker c.loop-command.lexer
    c.follow.new.lexer c.loop-command.chooser c.follow.new.chooser c.loop-command.last c.follow.new.last
    c.in-Some.command g.met.G.ChooseGoals.is_rule c.requires.utf8 c.loop-command.invariant
    (sym (c.in-Some.ensures c.loop-command.invariant.session.state.now.tokens c.loop-command.invariant.is_told))
    c.in_ok-follow.ensures.ok

pub loop-command-smaller : goal.loop-command-smaller
loop-command-smaller g c =
    reading_falls g.T.TakeTokens.takes g.G.ChooseGoals.is_told g.G.ChooseGoals.choice c.args.text.now
    c.args.lexer.now.source_type c.args.taker.now c.loop-command.taker c.follow.new.taker c.loop-command.lexer
    c.follow.new.lexer c.loop-command.chooser c.follow.new.chooser c.loop-command.last c.follow.new.last
    c.in-Some.command g.met.G.ChooseGoals.is_rule c.requires.utf8 c.loop-command.invariant
    (sym (c.in-Some.ensures c.loop-command.invariant.session.state.now.tokens c.loop-command.invariant.is_told))
    c.in_ok-follow.ensures.ok

pub hand_over-requires : goal.hand_over-requires
hand_over-requires g c =
    reading_held g.T.TakeTokens.takes g.G.ChooseGoals.choice (g.G.ChooseGoals.is_told c.loop-command.chooser)
    c.args.text.now c.args.lexer.now.source_type c.args.taker.now c.loop-command.taker c.loop-command.lexer
    c.loop-command.last c.loop-command.invariant

-- there was no memory for a step
pub returns-in_err-follow-clause-err : goal.returns-in_err-follow-clause-err
returns-in_err-follow-clause-err g c =
    on_err c.from_residual-in_err-follow.result
    (breaks_later g.T.TakeTokens.takes g.T.TakeTokens.breaks_off (taken_backward c.loop-command.invariant.before)
    c.args.taker.now c.loop-command.taker c.follow.new.taker c.loop-command.invariant.taken
    c.in_err-follow.ensures.err)

pub returns-clause-ok : goal.returns-clause-ok
returns-clause-ok g c =
    on_ok_weaker c.hand_over.result
    (reading_ends g.T.TakeTokens.takes g.G.ChooseGoals.choice (g.G.ChooseGoals.is_told c.loop-command.chooser)
    c.args.text.now c.args.lexer.now.source_type c.args.taker.now c.loop-command.taker c.hand_over.new.taker
    c.loop-command.lexer c.loop-command.last g.met.G.ChooseGoals.is_rule c.requires.utf8 c.requires.short
    c.loop-command.invariant
    (sym (c.in_default.ensures c.loop-command.invariant.session.state.now.tokens c.loop-command.invariant.is_told)))
    c.hand_over.ensures.ok

pub returns-clause-err : goal.returns-clause-err
returns-clause-err g c =
    on_err_weaker c.hand_over.result
    (breaks_behind g.T.TakeTokens.takes g.T.TakeTokens.breaks_off (taken_backward c.loop-command.invariant.before)
    c.args.taker.now c.loop-command.taker c.hand_over.new.taker c.loop-command.invariant.taken)
    c.hand_over.ensures.err
