use Rattle.std.proofs.Common.{◌≡◌, take, string_bytes}
use Rattle.js_lines.specs.declared.line_ends.LineEnds.TheVariants.{EcmaScript}
use Rattle.js_totsenak.specs.Check.{in_characters}
use Rattle.js_imports_text.specs.Json.{found_objects}
use Rattle.js_imports_text.proofs.json.imports_json.Given as goal

-- The objects so far were appended.
abbrev pub invariant-loop-one : goal.invariant-loop-one
invariant-loop-one l =
    (l.places ≡ in_characters (record { text = l.source; ends = EcmaScript }))
    × (string_bytes l.text ≡ found_objects l.source (take l.one-index l.found))
