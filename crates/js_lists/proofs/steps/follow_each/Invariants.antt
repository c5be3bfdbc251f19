use Rattle.js_lists.proofs.FollowLemmas.{Following}
use Rattle.js_lists.proofs.steps.follow_each.Given as goal

-- The commands before this one were followed.
abbrev pub invariant-loop-command : goal.invariant-loop-command
invariant-loop-command g l =
    Following g.T.TakeTokens.takes l.fn.lexer.text l.fn.lexer.source_type l.commands l.command-index l.fn.taker l.taker
    l.lexer l.pending
