use Rattle.std.proofs.Common.{◌≡◌, ◌++◌, replicate}
use Rattle.js_parse_tool.proofs.draw.put_first.Given as goal

-- The depth was put there once a turn.
abbrev pub invariant-loop : goal.invariant-loop
invariant-loop l = l.depths.items ≡ replicate l.counter l.depth ++ l.initial.depths.items
