use Rattle.std.proofs.Common.{◌≡◌, ◌+◌, ◌-◌, ◌++◌, string_bytes}
use Rattle.std.specs.List.{flat_map, range_with_len}
use Rattle.js_lex_tool.specs.Generated.{generated_line, generated}
use Rattle.js_lex_tool.proofs.generator.generated.Given as goal

-- The lines so far, and then those of the numbers that are left, are all lines.
abbrev pub invariant-loop-number : goal.invariant-loop-number
invariant-loop-number l =
    string_bytes l.text ++ flat_map generated_line (range_with_len l.number (l.lines + 1 - l.number))
    ≡ generated l.lines
