use Rattle.std.proofs.Common.{◌≡◌, ◌-◌, ◌^◌, ◌≤◌}
use Rattle.js_parse_tool.proofs.statement.declarators.Given as goal

-- The current token starts no earlier than it did, and the source is the same.
abbrev pub invariant-declarators : goal.invariant-declarators
invariant-declarators l =
    (l.initial.cursor.token.start ≤ l.cursor.token.start) × (l.trees.text ≡ l.initial.trees.text)

-- There is still text behind the start of the current token.
abbrev pub decreases-declarators : goal.decreases-declarators
decreases-declarators l = 2 ^ 32 - l.cursor.token.start
