use Rattle.std.proofs.Common.{◌++◌, string_bytes, refl}
use Rattle.js_lex_tool.specs.ReportText.{found_lines, row_lines, token_lines}
use Rattle.js_lex_tool.proofs.Held.{ends_held, ends_stopped}
use Rattle.js_lex_tool.proofs.report_out.write_report_text.Goals as goal

pub returns-in-Ok : goal.returns-in-Ok
returns-in-Ok g c =
    let state = g.O.ByteOut.state in
    let report = c.args.report.now in
    let lines = row_lines c.args.source.now 0 report.rows ++ token_lines report in
    ends_held lines (found_lines report) (string_bytes c.write_lines.new.held) (state c.args.output.now)
    (state c.write_lines.new.output) (state c.write_rest.new.output) c.write_rest.result
    (rw c.new-held.ensures.bytes at c.in-Ok.ensures) c.write_rest.ensures

pub returns : goal.returns
returns g c =
    let state = g.O.ByteOut.state in
    let report = c.args.report.now in
    let lines = row_lines c.args.source.now 0 report.rows ++ token_lines report in
    rw c.status_of_fault.ensures
    (ends_stopped lines (found_lines report) (lines ++ found_lines report) (state c.args.output.now)
    (state c.write_lines.new.output) c.in-Err.fault refl (rw c.new-held.ensures.bytes at c.in-Err.ensures))
