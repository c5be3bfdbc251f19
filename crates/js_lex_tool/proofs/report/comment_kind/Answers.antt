use Rattle.js_lex_tool.proofs.Lines.{kind_is_short}
use Rattle.js_lex_tool.proofs.report.comment_kind.Goals as goal

pub returns-clause-short : goal.returns-clause-short
returns-clause-short c = rw c.name.ensures (kind_is_short c.args.kind)
