use Rattle.std.proofs.Common.{refl}
use Rattle.js_lex_tool.proofs.Answering.{answers_at_refusal, answers_at_report}
use Rattle.js_lex_tool.specs.ReportText.{report_text_of}
use Rattle.js_lex_tool.specs.declared.tool.Ran.{Ran}
use Rattle.js_lex_tool.proofs.tool.answer.Goals as goal

pub returns-in-Err : goal.returns-in-Err
returns-in-Err g c =
    let cause = rw c.as_slice.ensures at c.in-Err.ensures.cause in
    rw (c.outcome_without_run.ensures, c.status_of.ensures)
    (answers_at_refusal c.args.line c.args.source (report_text_of c.args.source) _ c.in-Err.fault c.requires cause)

pub write_report-requires-clause-slices : goal.write_report-requires-clause-slices
write_report-requires-clause-slices g c = rw c.as_slice.ensures at c.in-Ok.ensures.slices

pub returns : goal.returns
returns g c =
    let ok = rw c.as_slice.ensures at c.in-Ok.ensures.ok in
    let commands = rw c.as_slice.ensures at c.in-Ok.ensures.commands in
    let report = rw c.as_slice.ensures at c.in-Ok.ensures.report in
    let line = c.args.line in
    let ran : Ran = record {
      source = c.args.source;
      source_type = line.source_type;
      tokens = line.tokens;
      commands = c.in-Ok.ran.0;
      report = c.in-Ok.ran.1;
    } in
    answers_at_report c.args.line c.args.source (report_text_of c.args.source) ran _ _ c.write_report.result ok.0 ok.1
    (record { source = refl; source_type = refl; tokens = refl; commands = commands; report = report })
    c.write_report.ensures.outcome c.write_report.ensures.text c.write_report.ensures.faults
    c.write_report.ensures.in_time
