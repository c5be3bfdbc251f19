use Rattle.std.proofs.Common.{sym}
use Rattle.js_lex_tool.proofs.Completing.{runs_task, runs_out}
use Rattle.js_lex_tool.proofs.tool.lex_tool_run.Goals as goal

pub returns-in-Ok-Some-clause-run : goal.returns-in-Ok-Some-clause-run
returns-in-Ok-Some-clause-run g c =
    let words = rw c.in-Ok-Some.field-0-is at c.in-Ok-Some.ensures.task in
    runs_task _ c.in-Ok-Some.task _ _ _ _ c.run_task.result (sym words) c.run_task.ensures.run

pub returns-in-Err-clause-run : goal.returns-in-Err-clause-run
returns-in-Err-clause-run g c = rw c.outcome_without_run-in-Err.ensures (runs_out _ _ _)
