use Rattle.std.proofs.Common.{◌+◌, ◌++◌, drop, string_bytes, ap, arith}
use Rattle.std.specs.List.{flat_map}
use Rattle.std.proofs.lemmas.List.{drop_all}
use Rattle.std.proofs.lemmas.Result.{err_from_is_err_and}
use Rattle.js_lex_tool.specs.ReportText.{token_line}
use Rattle.js_lex_tool.proofs.Held.{nothing_handed, line_handed, line_stopped, all_handed, token_next}
use Rattle.js_lex_tool.proofs.report_out.write_tokens.Goals as goal

pub loop-token-init : goal.loop-token-init
loop-token-init g c =
    nothing_handed (string_bytes c.args.held.now) (flat_map (token_line c.args.label.now) c.args.tokens.now)
    (g.O.ByteOut.state c.args.output.now)

pub loop-token-preserved : goal.loop-token-preserved
loop-token-preserved g c =
    let state = g.O.ByteOut.state in
    let line = token_line c.args.label.now in
    let tokens = c.args.tokens.now in
    let i = c.loop-token.token-index in
    let token = c.token-item.result in
    let next = token_next line tokens i token (omega arith) c.token-item.is in
    line_handed (string_bytes c.args.held.now ++ flat_map line tokens) (string_bytes c.loop-token.held) (line token)
    (flat_map line (drop (i + 1) tokens)) (string_bytes c.write_token.new.held) (state c.args.output.now)
    (state c.loop-token.output) (state c.write_token.new.output) (rw next at c.loop-token.invariant)
    c.in_ok-write_token.ensures

pub returns-in_err-write_token : goal.returns-in_err-write_token
returns-in_err-write_token g c =
    let state = g.O.ByteOut.state in
    let line = token_line c.args.label.now in
    let tokens = c.args.tokens.now in
    let i = c.loop-token.token-index in
    let token = c.token-item.result in
    let next = token_next line tokens i token (omega arith) c.token-item.is in
    let p = err_from_is_err_and c.from_residual.result c.from_residual.ensures.1 in
    rw (p.1, p.2)
    (line_stopped (string_bytes c.args.held.now ++ flat_map line tokens) (string_bytes c.loop-token.held) (line token)
    (flat_map line (drop (i + 1) tokens)) (state c.args.output.now) (state c.loop-token.output)
    (state c.write_token.new.output) _ (rw next at c.loop-token.invariant) c.in_err-write_token.ensures)

pub returns : goal.returns
returns g c =
    let state = g.O.ByteOut.state in
    let line = token_line c.args.label.now in
    let tokens = c.args.tokens.now in
    let i = c.loop-token.token-index in
    all_handed (string_bytes c.args.held.now ++ flat_map line tokens) (string_bytes c.loop-token.held)
    (flat_map line (drop i tokens)) (state c.args.output.now) (state c.loop-token.output)
    (ap (flat_map line) (drop_all i tokens (omega arith))) c.loop-token.invariant
