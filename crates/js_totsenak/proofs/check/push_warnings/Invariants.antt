use Rattle.std.proofs.Common.{◌≡◌, ◌++◌, take, string_bytes}
use Rattle.std.specs.List.{flat_map}
use Rattle.js_totsenak.specs.Check.{in_characters, warning_text}
use Rattle.js_totsenak.proofs.check.push_warnings.Given as goal

-- The messages so far were appended.
abbrev pub invariant-loop-span : goal.invariant-loop-span
invariant-loop-span l =
    (l.places ≡ in_characters l.lines)
    × (string_bytes l.text
    ≡ string_bytes l.initial.text ++ flat_map (warning_text l.name l.lines.text) (take l.span-index l.warnings))
