use Rattle.std.proofs.Common.{◌++◌, drop, string_bytes}
use Rattle.std.specs.List.{flat_map}
use Rattle.js_lex_tool.specs.ReportText.{token_line}
use Rattle.js_lex_tool.proofs.Held.{HasHandedOn}
use Rattle.js_lex_tool.proofs.report_out.write_tokens.Given as goal

-- Of what was held back and the lines of all tokens, a beginning was written, then comes what is held back now, and then
-- the lines of the tokens that are left.
abbrev pub invariant-loop-token : goal.invariant-loop-token
invariant-loop-token g l =
    HasHandedOn (string_bytes l.initial.held ++ flat_map (token_line l.label) l.tokens) (string_bytes l.held)
    (flat_map (token_line l.label) (drop l.token-index l.tokens)) (g.O.ByteOut.state l.initial.output)
    (g.O.ByteOut.state l.output)
