use Rattle.std.proofs.Common.{◌≡◌, ◌++◌, string_bytes}
use Rattle.std.specs.List.{flat_map}
use Rattle.js_totsenak.specs.Json.{json_character}
use Rattle.js_totsenak.proofs.json.push_json_characters.Given as goal

-- The characters so far were appended.
abbrev pub invariant-loop-c : goal.invariant-loop-c
invariant-loop-c l = string_bytes l.text ≡ string_bytes l.initial.text ++ flat_map json_character l.yielded
