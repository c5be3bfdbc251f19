use Rattle.std.proofs.Common.{◌≡◌, ◌-◌, ◌^◌, ◌≤◌}
use Rattle.js_parse_tool.proofs.statement.statements.Given as goal

-- The current token starts no earlier than it did, and the source is the same.
abbrev pub invariant-statements : goal.invariant-statements
invariant-statements l =
    (l.initial.cursor.token.start ≤ l.cursor.token.start) × (l.trees.text ≡ l.initial.trees.text)

-- There is still text behind the start of the current token.
abbrev pub decreases-statements : goal.decreases-statements
decreases-statements l = 2 ^ 32 - l.cursor.token.start
