use Rattle.std.proofs.Common.{Some, sym, subst, refl}
use Rattle.js_process.specs.TextRun.{RunsMaker}
use Rattle.js_jsx_report.specs.Run.{IsJsxText}
use Rattle.js_jsx_report.specs.declared.program.JsxReport.{JsxReport}
use Rattle.js_jsx_report.proofs.program.jsx_program.Goals as goal

pub returns-clause-run : goal.returns-clause-run
returns-clause-run g c = (
  _,
  subst
      (RunsMaker {W = JsxReport} (λ q source text. IsJsxText source text) (Some _) (g.I.ByteIn.state c.args.input.now)
      (g.I.ByteIn.state c.text_run-status.new.input) (g.O.ByteOut.state c.args.output.now)
      (g.O.ByteOut.state c.text_run-status.new.output))
      (sym c.end_program.ensures.code) (c.text_run-status.ensures.run _ refl),
)
