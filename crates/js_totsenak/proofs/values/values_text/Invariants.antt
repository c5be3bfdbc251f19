use Rattle.std.proofs.Common.{◌≡◌, List, take, string_bytes}
use Rattle.js_lists.specs.Lists.{HasTaken}
use Rattle.js_lists.specs.Taken.{Taken}
use Rattle.js_totsenak.specs.Values.{values_text}
use Rattle.js_totsenak.proofs.values.values_text.Given as goal

-- The lines of the tokens so far were appended.
abbrev pub invariant-loop-index : goal.invariant-loop-index
invariant-loop-index l =
    (taken : List Taken) → HasTaken l.lists taken → string_bytes l.text ≡ values_text l.source (take l.index taken)
