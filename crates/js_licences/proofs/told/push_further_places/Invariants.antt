use Rattle.std.proofs.Common.{◌≡◌, ◌++◌, take, string_bytes}
use Rattle.js_licences.specs.Told.{further_places}
use Rattle.js_licences.proofs.told.push_further_places.Given as goal

-- The places so far were appended.
abbrev pub invariant-loop-place : goal.invariant-loop-place
invariant-loop-place l =
    string_bytes l.text ≡ string_bytes l.initial.text ++ further_places (take l.place-index l.places)
