use Rattle.js_lex_tool.proofs.Lines.{content_is_short}
use Rattle.js_lex_tool.proofs.report.comment_content.Goals as goal

pub returns-clause-short : goal.returns-clause-short
returns-clause-short c = rw c.name.ensures (content_is_short c.args.content)
