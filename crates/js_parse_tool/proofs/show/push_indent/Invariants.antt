use Rattle.std.proofs.Common.{◌≡◌, ◌++◌, string_bytes}
use Rattle.js_parse_tool.specs.Shown.{indent}
use Rattle.js_parse_tool.proofs.show.push_indent.Given as goal

-- The spaces of the levels so far were appended.
abbrev pub invariant-loop : goal.invariant-loop
invariant-loop l = string_bytes l.text ≡ string_bytes l.initial.text ++ indent l.counter
