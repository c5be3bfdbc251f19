use Rattle.std.proofs.Common.{◌≡◌, ◌++◌, drop, string_bytes}
use Rattle.std.specs.List.{AllByRecursion}
use Rattle.js_session.specs.Report.{IsSliceOnPlaces}
use Rattle.js_lex_tool.specs.ReportText.{row_lines}
use Rattle.js_lex_tool.proofs.report.push_rows.Given as goal

-- The lines so far, and then those of the rows that are left, are the lines of all rows. The rows that are left have
-- their slices on places.
abbrev pub invariant-loop-index : goal.invariant-loop-index
invariant-loop-index l =
    (string_bytes l.text ++ row_lines l.source l.index (drop l.index l.rows)
    ≡ string_bytes l.initial.text ++ row_lines l.source 0 l.rows)
    × AllByRecursion (λ row. IsSliceOnPlaces l.source row.value) (drop l.index l.rows)
