use Rattle.std.proofs.Common.{arith, inl, refl}
use Rattle.js_lex_tool.proofs.Answering.{memory_alone}
use Rattle.js_lex_tool.proofs.tool.run_generated.Goals as goal

pub returns-in-Err-run_all-clause-known : goal.returns-in-Err-run_all-clause-known
returns-in-Err-run_all-clause-known g c =
    let cause = rw c.as_slice.ensures at c.in-Err-run_all.ensures.cause in
    let short = c.in-Ok.ensures.short in
    let memory = memory_alone _ c.in-Err-run_all.fault (omega (arith, short)) c.in-Ok.ensures.utf8 cause in
    rw (c.outcome_without_run-in-Err-run_all.ensures, c.status_of.ensures, memory) (inl refl)
