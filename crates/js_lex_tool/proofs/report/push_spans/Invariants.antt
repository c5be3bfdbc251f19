use Rattle.std.proofs.Common.{◌≡◌, ◌++◌, take, string_bytes}
use Rattle.std.specs.List.{flat_map}
use Rattle.js_lex_tool.specs.ReportText.{span_line}
use Rattle.js_lex_tool.proofs.report.push_spans.Given as goal

-- The lines so far were appended.
abbrev pub invariant-loop-span : goal.invariant-loop-span
invariant-loop-span l =
    string_bytes l.text ≡ string_bytes l.initial.text ++ flat_map (span_line l.label) (take l.span-index l.spans)
