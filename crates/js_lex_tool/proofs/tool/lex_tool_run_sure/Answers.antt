use Rattle.std.proofs.Common.{arith}
use Rattle.js_lex_tool.proofs.Completing.{never_fails}
use Rattle.js_lex_tool.proofs.tool.lex_tool_run_sure.Goals as goal

pub returns-clause-never : goal.returns-clause-never
returns-clause-never c =
    let run = c.lex_tool_run in
    never_fails _ _ _ _ _ run.result run.ensures.run (λ h. omega (arith, h)) (λ h. omega (arith, h))
