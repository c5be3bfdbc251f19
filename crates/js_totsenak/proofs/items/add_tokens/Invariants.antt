use Rattle.std.proofs.Common.{◌≡◌, ◌++◌, drop}
use Rattle.js_totsenak.specs.Items.{token_items}
use Rattle.js_totsenak.proofs.items.add_tokens.Given as goal

-- The items so far, and then those of the tokens that are left, are the items of all tokens.
abbrev pub invariant-loop-index : goal.invariant-loop-index
invariant-loop-index l =
    l.items.items ++ token_items l.index (drop l.index l.tokens) ≡ l.initial.items.items ++ token_items 0 l.tokens
