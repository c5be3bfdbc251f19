use Rattle.std.proofs.Common.{◌≡◌, ◌++◌, take, string_bytes}
use Rattle.std.specs.List.{flat_map}
use Rattle.js_lex_tool.specs.ReportText.{token_line}
use Rattle.js_lex_tool.proofs.report.push_tokens.Given as goal

-- The lines of the tokens so far were appended.
abbrev pub invariant-loop-token : goal.invariant-loop-token
invariant-loop-token l =
    string_bytes l.text ≡ string_bytes l.initial.text ++ flat_map (token_line l.label) (take l.token-index l.tokens)
