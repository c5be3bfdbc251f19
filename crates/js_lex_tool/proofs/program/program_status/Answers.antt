use Rattle.js_lex_tool.proofs.program.program_status.Goals as goal

pub returns-in-Ok : goal.returns-in-Ok
returns-in-Ok g c = rw c.in-Ok.is (c.lex_tool_run.result.ran, c.lex_tool_run.ensures.run)
