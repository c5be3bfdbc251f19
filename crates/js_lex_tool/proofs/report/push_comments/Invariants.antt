use Rattle.std.proofs.Common.{◌≡◌, ◌++◌, take, string_bytes}
use Rattle.std.specs.List.{flat_map}
use Rattle.js_lex_tool.specs.ReportText.{comment_line}
use Rattle.js_lex_tool.proofs.report.push_comments.Given as goal

-- The lines so far were appended.
abbrev pub invariant-loop-comment : goal.invariant-loop-comment
invariant-loop-comment l =
    string_bytes l.text ≡ string_bytes l.initial.text ++ flat_map comment_line (take l.comment-index l.comments)
