use Rattle.std.proofs.Common.{◌≡◌, ◌++◌, List, take, string_bytes}
use Rattle.std.specs.List.{flat_map}
use Rattle.js_lines.specs.declared.line_ends.LineEnds.TheVariants.{EcmaScript}
use Rattle.js_lists.specs.Lists.{HasTaken}
use Rattle.js_lists.specs.Taken.{Taken}
use Rattle.js_totsenak.specs.Check.{in_characters}
use Rattle.js_totsenak.specs.ItemJson.{item_json}
use Rattle.js_totsenak.proofs.item_lines.push_items.Given as goal

-- The lines of the items so far were appended.
abbrev pub invariant-loop-item : goal.invariant-loop-item
invariant-loop-item l =
    (l.places ≡ in_characters (record { text = l.source; ends = EcmaScript }))
    × ((taken : List Taken) → HasTaken l.lists taken
    → string_bytes l.text
    ≡ string_bytes l.initial.text ++ flat_map (item_json l.source taken) (take l.item-index l.items))
