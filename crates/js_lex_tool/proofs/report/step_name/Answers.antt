use Rattle.js_lex_tool.proofs.Lines.{word_is_short}
use Rattle.js_lex_tool.proofs.report.step_name.Goals as goal

pub returns-in-Some-clause-short : goal.returns-in-Some-clause-short
returns-in-Some-clause-short c = rw c.command_word.ensures (word_is_short c.in-Some.command)
