use Rattle.std.proofs.Common.{◌≡◌, ◌++◌, take, string_bytes}
use Rattle.js_licences.specs.Told.{places_lines}
use Rattle.js_licences.proofs.told.push_places.Given as goal

-- The lines so far were appended.
abbrev pub invariant-loop-place : goal.invariant-loop-place
invariant-loop-place l =
    string_bytes l.text ≡ string_bytes l.initial.text ++ places_lines (take l.place-index l.places)
