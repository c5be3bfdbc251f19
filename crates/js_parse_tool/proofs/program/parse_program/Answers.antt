use Rattle.std.proofs.Common.{Some, sym, subst, refl}
use Rattle.js_process.specs.TextRun.{RunsMaker}
use Rattle.js_parse_tool.specs.Covered.{IsParseText}
use Rattle.js_parse_tool.specs.declared.program.Parse.{Parse}
use Rattle.js_parse_tool.proofs.program.parse_program.Goals as goal

pub returns-clause-run : goal.returns-clause-run
returns-clause-run g c = (
  _,
  subst
      (RunsMaker {W = Parse} (λ q source text. IsParseText source text) (Some _) (g.I.ByteIn.state c.args.input.now)
      (g.I.ByteIn.state c.text_run-status.new.input) (g.O.ByteOut.state c.args.output.now)
      (g.O.ByteOut.state c.text_run-status.new.output))
      (sym c.end_program.ensures.code) (c.text_run-status.ensures.run _ refl),
)
