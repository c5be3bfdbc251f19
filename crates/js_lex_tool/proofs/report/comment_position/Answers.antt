use Rattle.js_lex_tool.proofs.Lines.{position_is_short}
use Rattle.js_lex_tool.proofs.report.comment_position.Goals as goal

pub returns-clause-short : goal.returns-clause-short
returns-clause-short c = rw c.name.ensures (position_is_short c.args.position)
