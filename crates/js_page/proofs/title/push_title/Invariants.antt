use Rattle.std.proofs.Common.{◌≡◌, ◌++◌, string_bytes}
use Rattle.std.specs.List.{flat_map}
use Rattle.js_page.specs.Characters.{in_title}
use Rattle.js_page.proofs.title.push_title.Given as goal

-- The characters so far were appended.
abbrev pub invariant-loop-c : goal.invariant-loop-c
invariant-loop-c l = string_bytes l.text ≡ string_bytes l.initial.text ++ flat_map in_title l.yielded
