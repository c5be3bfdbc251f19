use Rattle.std.proofs.Common.{◌≡◌, ◌++◌, map, take}
use Rattle.js_session.specs.Shifted.{shifted_token}
use Rattle.js_relex.proofs.live.add_moved_tokens.Given as goal

-- So many were added, moved.
abbrev pub invariant-loop-token : goal.invariant-loop-token
invariant-loop-token l =
    l.list ≡ l.initial.list ++ map (shifted_token l.shift.from l.shift.to) (take l.token-index l.tokens)
