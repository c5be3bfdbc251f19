use Rattle.std.proofs.Common.{take}
use Rattle.js_lists.specs.Steps.{HandsEach}
use Rattle.js_lists.proofs.pending.hand_each.Given as goal

-- So many tokens were handed over.
abbrev pub invariant-loop-token : goal.invariant-loop-token
invariant-loop-token g l =
    HandsEach g.T.TakeTokens.takes l.lexer.decoded (take l.token-index l.tokens) l.fn.taker l.taker
