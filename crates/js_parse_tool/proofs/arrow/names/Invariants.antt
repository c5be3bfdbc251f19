use Rattle.std.proofs.Common.{◌≡◌, ◌-◌, ◌^◌, ◌≤◌}
use Rattle.js_parse_tool.proofs.arrow.names.Given as goal

-- The current token starts no earlier than it did, and the source is the same.
abbrev pub invariant-names : goal.invariant-names
invariant-names l =
    (l.initial.cursor.token.start ≤ l.cursor.token.start) × (l.trees.text ≡ l.initial.trees.text)

-- There is still text behind the start of the current token.
abbrev pub decreases-names : goal.decreases-names
decreases-names l = 2 ^ 32 - l.cursor.token.start
