use Rattle.std.proofs.Common.{◌≡◌, ◌++◌, take, string_bytes}
use Rattle.std.specs.List.{flat_map}
use Rattle.js_parse_tool.specs.Shown.{line_text}
use Rattle.js_parse_tool.proofs.show.push_lines.Given as goal

-- The lines so far were appended.
abbrev pub invariant-loop-line : goal.invariant-loop-line
invariant-loop-line l =
    string_bytes l.text ≡ string_bytes l.initial.text ++ flat_map line_text (take l.line-index l.lines)
