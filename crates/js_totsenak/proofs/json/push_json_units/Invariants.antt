use Rattle.std.proofs.Common.{◌≡◌, ◌++◌, take, string_bytes}
use Rattle.std.specs.List.{flat_map}
use Rattle.js_totsenak.specs.Json.{json_unit}
use Rattle.js_totsenak.proofs.json.push_json_units.Given as goal

-- The units so far were appended.
abbrev pub invariant-loop-unit : goal.invariant-loop-unit
invariant-loop-unit l =
    string_bytes l.text ≡ string_bytes l.initial.text ++ flat_map json_unit (take l.unit-index l.units)
