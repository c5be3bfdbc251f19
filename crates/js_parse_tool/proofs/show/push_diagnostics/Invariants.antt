use Rattle.std.proofs.Common.{◌≡◌, ◌++◌, take, string_bytes}
use Rattle.std.specs.List.{flat_map}
use Rattle.js_parse_tool.specs.Shown.{lexer_line}
use Rattle.js_parse_tool.proofs.show.push_diagnostics.Given as goal

-- The lines of the errors so far were appended.
abbrev pub invariant-loop-error : goal.invariant-loop-error
invariant-loop-error l =
    string_bytes l.text ≡ string_bytes l.initial.text ++ flat_map lexer_line (take l.error-index l.errors)
