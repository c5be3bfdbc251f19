use Rattle.std.proofs.Common.{◌≡◌, take, string_bytes}
use Rattle.js_licences.specs.Told.{licences_text}
use Rattle.js_licences.proofs.told.licences_text.Given as goal

-- The licences so far were appended.
abbrev pub invariant-loop-index : goal.invariant-loop-index
invariant-loop-index l = string_bytes l.text ≡ licences_text (take l.index l.licences)
