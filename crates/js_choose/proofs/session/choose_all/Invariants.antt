use Rattle.js_choose.proofs.SessionLemmas.{Goes, left_of}
use Rattle.js_choose.proofs.session.choose_all.Given as goal

-- The steps so far were chosen, and the chooser was told their tokens.
abbrev pub invariant-loop-command : goal.invariant-loop-command
invariant-loop-command g l =
    Goes g.G.ChooseGoals.choice l.fn.text l.fn.session.source_type l.fn.session.collects l.commands l.session
    × g.G.ChooseGoals.is_told l.chooser l.session.state.now.tokens

abbrev pub decreases-loop-command : goal.decreases-loop-command
decreases-loop-command g l = left_of l.fn.text l.session.state.now.tokens
