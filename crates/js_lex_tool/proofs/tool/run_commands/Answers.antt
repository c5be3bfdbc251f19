use Rattle.js_lex_tool.proofs.tool.run_commands.Goals as goal

pub returns-in-Listed-clause-ok : goal.returns-in-Listed-clause-ok
returns-in-Listed-clause-ok c = rw c.in-Listed.is c.run_listed.ensures.ok
