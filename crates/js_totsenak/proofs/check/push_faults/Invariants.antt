use Rattle.std.proofs.Common.{◌≡◌, ◌++◌, take, string_bytes}
use Rattle.std.specs.List.{flat_map}
use Rattle.js_totsenak.specs.Check.{in_characters, labelled_text}
use Rattle.js_totsenak.proofs.check.push_faults.Given as goal

-- The messages so far were appended.
abbrev pub invariant-loop-diagnostic : goal.invariant-loop-diagnostic
invariant-loop-diagnostic l =
    (l.places ≡ in_characters l.lines)
    × (string_bytes l.text
    ≡ string_bytes l.initial.text
    ++ flat_map (labelled_text l.name l.lines.text l.label) (take l.diagnostic-index l.diagnostics))
