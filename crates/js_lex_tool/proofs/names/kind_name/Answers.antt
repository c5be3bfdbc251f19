use Rattle.js_lex_tool.proofs.Named.{name_is_short}
use Rattle.js_lex_tool.proofs.names.kind_name.Goals as goal

pub returns-clause-short : goal.returns-clause-short
returns-clause-short c = rw c.name.ensures (name_is_short c.args.kind)
