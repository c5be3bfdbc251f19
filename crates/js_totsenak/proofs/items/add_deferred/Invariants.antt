use Rattle.std.proofs.Common.{◌≡◌, ◌++◌, map, take}
use Rattle.js_totsenak.specs.Items.{deferred_item}
use Rattle.js_totsenak.proofs.items.add_deferred.Given as goal

-- The items of the diagnostics so far were added.
abbrev pub invariant-loop-diagnostic : goal.invariant-loop-diagnostic
invariant-loop-diagnostic l =
    l.items.items ≡ l.initial.items.items ++ map deferred_item (take l.diagnostic-index l.deferred)
