use Rattle.std.proofs.Common.{codes, string_bytes}
use Rattle.std.specs.List.{flat_map}
use Rattle.js_lex_tool.specs.ReportText.{token_line}
use Rattle.js_lex_tool.proofs.Held.{hands_both, hands_stopped}
use Rattle.js_lex_tool.proofs.report_out.write_all_tokens.Goals as goal

pub returns-in-Ok : goal.returns-in-Ok
returns-in-Ok g c =
    let state = g.O.ByteOut.state in
    let tokens = flat_map (token_line (codes "token")) c.args.report.now.tokens in
    let collected = flat_map (token_line (codes "collected")) c.args.report.now.collected in
    hands_both c.write_tokens-in-Ok.result tokens collected (string_bytes c.args.held.now)
    (string_bytes c.write_tokens.new.held) (string_bytes c.write_tokens-in-Ok.new.held) (state c.args.output.now)
    (state c.write_tokens.new.output) (state c.write_tokens-in-Ok.new.output)
    (rw c.as_slice.ensures at c.in-Ok.ensures) (rw c.as_slice-in-Ok.ensures at c.write_tokens-in-Ok.ensures)

pub returns-in-Err : goal.returns-in-Err
returns-in-Err g c =
    let state = g.O.ByteOut.state in
    let tokens = flat_map (token_line (codes "token")) c.args.report.now.tokens in
    let collected = flat_map (token_line (codes "collected")) c.args.report.now.collected in
    hands_stopped tokens collected (string_bytes c.args.held.now) (state c.args.output.now)
    (state c.write_tokens.new.output) c.in-Err.fault (rw c.as_slice.ensures at c.in-Err.ensures)
