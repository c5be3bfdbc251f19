use Rattle.js_lists.proofs.ChosenLemmas.{Reading, left}
use Rattle.js_lists.proofs.chosen.read_tokens.Given as goal

-- The steps so far were chosen, and what they settled was handed over.
abbrev pub invariant-loop-command : goal.invariant-loop-command
invariant-loop-command g l =
    Reading g.T.TakeTokens.takes g.G.ChooseGoals.choice (g.G.ChooseGoals.is_told l.chooser) l.fn.text
    l.fn.lexer.source_type l.fn.taker l.taker l.lexer l.last

abbrev pub decreases-loop-command : goal.decreases-loop-command
decreases-loop-command g l = left l.lexer
