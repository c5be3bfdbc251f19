use Rattle.std.proofs.Common.{◌≡◌, ◌++◌, map, take}
use Rattle.js_totsenak.specs.Items.{warning_item}
use Rattle.js_totsenak.proofs.items.add_warnings.Given as goal

-- The items of the warnings so far were added.
abbrev pub invariant-loop-span : goal.invariant-loop-span
invariant-loop-span l = l.items.items ≡ l.initial.items.items ++ map warning_item (take l.span-index l.warnings)
