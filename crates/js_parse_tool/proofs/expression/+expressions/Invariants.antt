use Rattle.std.proofs.Common.{◌≡◌, ◌≢◌, ◌-◌, ◌*◌, ◌+◌, ◌^◌, ◌<◌, ◌≤◌}
use Rattle.js_parse_tool.specs.declared.step.Rest.TheVariants.{Nothing}
use Rattle.js_parse_tool.proofs.expression.+expressions.Given as goal

-- An expression leads to what nests one level less deep: what is left of it, and then elements, and then expressions.
abbrev pub decreases-expression : goal.decreases-expression
decreases-expression l = 3 * l.depth

abbrev pub decreases-elements : goal.decreases-elements
decreases-elements l = 3 * l.depth + 1

abbrev pub decreases-rest : goal.decreases-rest
decreases-rest l = 3 * l.depth + 2

-- The current token starts no earlier than it did, and behind the start of the expression where more of that is to
-- come; the source is the same.
abbrev pub invariant-expression-steps : goal.invariant-expression-steps
invariant-expression-steps l =
    (l.initial.cursor.token.start ≤ l.cursor.token.start) × (l.trees.text ≡ l.initial.trees.text)
    × (l.step.rest ≢ Nothing → l.start < l.cursor.token.start)

-- There is still text behind the start of the current token.
abbrev pub decreases-expression-steps : goal.decreases-expression-steps
decreases-expression-steps l = 2 ^ 32 - l.cursor.token.start

-- The current token starts no earlier than it did, and the source is the same.
abbrev pub invariant-elements-elements : goal.invariant-elements-elements
invariant-elements-elements l =
    (l.initial.cursor.token.start ≤ l.cursor.token.start) × (l.trees.text ≡ l.initial.trees.text)

-- There is still text behind the start of the current token.
abbrev pub decreases-elements-elements : goal.decreases-elements-elements
decreases-elements-elements l = 2 ^ 32 - l.cursor.token.start
