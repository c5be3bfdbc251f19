use Rattle.js_lists.proofs.ChosenLemmas.{left}
use Rattle.js_bench.proofs.PassLemmas.{Passes}
use Rattle.js_bench.proofs.pass.pass_with.Given as goal

-- The steps so far were chosen, and the tokens that are live behind them were counted.
abbrev pub invariant-tokens : goal.invariant-tokens
invariant-tokens g l =
    Passes g.G.ChooseGoals.choice (g.G.ChooseGoals.is_told l.chooser) l.fn.text l.fn.lexer.source_type
    l.fn.lexer.collects l.tokens l.lexer

abbrev pub decreases-tokens : goal.decreases-tokens
decreases-tokens g l = left l.lexer
