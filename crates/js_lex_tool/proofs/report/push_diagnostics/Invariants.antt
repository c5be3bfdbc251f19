use Rattle.std.proofs.Common.{◌≡◌, ◌++◌, take, string_bytes}
use Rattle.std.specs.List.{flat_map}
use Rattle.js_lex_tool.specs.ReportText.{diagnostic_line}
use Rattle.js_lex_tool.proofs.report.push_diagnostics.Given as goal

-- The lines of the diagnostics so far were appended.
abbrev pub invariant-loop-diagnostic : goal.invariant-loop-diagnostic
invariant-loop-diagnostic l =
    string_bytes l.text
    ≡ string_bytes l.initial.text ++ flat_map (diagnostic_line l.label) (take l.diagnostic-index l.diagnostics)
