use Rattle.std.proofs.Common.{string_bytes}
use Rattle.js_lex_tool.specs.ReportText.{row_lines, token_lines}
use Rattle.js_lex_tool.proofs.Held.{hands_both, hands_stopped}
use Rattle.js_lex_tool.proofs.report_out.write_lines.Goals as goal

pub write_rows-requires : goal.write_rows-requires
write_rows-requires g c = rw c.as_slice.ensures c.requires

pub returns-in-Ok : goal.returns-in-Ok
returns-in-Ok g c =
    let state = g.O.ByteOut.state in
    let rows = row_lines c.args.source.now 0 c.args.report.now.rows in
    hands_both c.write_all_tokens.result rows (token_lines c.args.report.now) (string_bytes c.args.held.now)
    (string_bytes c.write_rows.new.held) (string_bytes c.write_all_tokens.new.held) (state c.args.output.now)
    (state c.write_rows.new.output) (state c.write_all_tokens.new.output) (rw c.as_slice.ensures at c.in-Ok.ensures)
    c.write_all_tokens.ensures

pub returns-in-Err : goal.returns-in-Err
returns-in-Err g c =
    let state = g.O.ByteOut.state in
    let rows = row_lines c.args.source.now 0 c.args.report.now.rows in
    hands_stopped rows (token_lines c.args.report.now) (string_bytes c.args.held.now) (state c.args.output.now)
    (state c.write_rows.new.output) c.in-Err.fault (rw c.as_slice.ensures at c.in-Err.ensures)
