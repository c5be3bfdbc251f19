use Rattle.std.proofs.Common.{◌≡◌, ◌++◌, string_bytes}
use Rattle.std.specs.List.{flat_map}
use Rattle.js_totsenak.specs.Escaped.{escaped}
use Rattle.js_totsenak.proofs.escaped.push_escaped.Given as goal

-- The characters so far were appended.
abbrev pub invariant-loop-c : goal.invariant-loop-c
invariant-loop-c l = string_bytes l.text ≡ string_bytes l.initial.text ++ flat_map escaped l.yielded
