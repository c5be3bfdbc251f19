use Rattle.std.proofs.Common.{◌++◌, drop, string_bytes}
use Rattle.std.specs.List.{AllByRecursion}
use Rattle.js_session.specs.Report.{IsSliceOnPlaces}
use Rattle.js_lex_tool.specs.ReportText.{row_lines}
use Rattle.js_lex_tool.proofs.Held.{HasHandedOn}
use Rattle.js_lex_tool.proofs.report_out.write_rows.Given as goal

-- Of what was held back and the lines of all rows, a beginning was written, then comes what is held back now, and then
-- the lines of the rows that are left, which have their slices on places.
abbrev pub invariant-loop-index : goal.invariant-loop-index
invariant-loop-index g l =
    HasHandedOn (string_bytes l.initial.held ++ row_lines l.source 0 l.rows) (string_bytes l.held)
    (row_lines l.source l.index (drop l.index l.rows)) (g.O.ByteOut.state l.initial.output)
    (g.O.ByteOut.state l.output)
    × AllByRecursion (λ row. IsSliceOnPlaces l.source row.value) (drop l.index l.rows)
