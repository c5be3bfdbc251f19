use Rattle.std.proofs.Common.{◌++◌, string_bytes}
use Rattle.js_lex_tool.specs.ReportText.{token_line}
use Rattle.js_lex_tool.proofs.Held.{hands_line, stops_at_once}
use Rattle.js_lex_tool.proofs.report_out.write_token.Goals as goal

pub returns-in-Ok : goal.returns-in-Ok
returns-in-Ok g c =
    let state = g.O.ByteOut.state in
    let line = token_line c.args.label.now c.args.token.now in
    hands_line c.hand_on.result line (string_bytes c.args.held.now) (string_bytes c.push_token.new.text)
    (string_bytes c.hand_on.new.held) (state c.args.output.now) (state c.hand_on.new.output) c.in-Ok.ensures
    c.hand_on.ensures

pub returns-in-Err : goal.returns-in-Err
returns-in-Err g c =
    stops_at_once (string_bytes c.args.held.now ++ token_line c.args.label.now c.args.token.now)
    (g.O.ByteOut.state c.args.output.now)
