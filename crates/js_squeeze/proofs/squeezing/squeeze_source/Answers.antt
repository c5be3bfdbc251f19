use Rattle.std.proofs.Common.{◌∙◌, ◌<◌, ap, arith, length, subst, sym}
use Rattle.std.specs.Prelude.{◌^◌}
use Rattle.std.specs.List.{AllByRecursion}
use Rattle.js_lexer.specs.Lexer.{IsOnPlaces}
use Rattle.js_session.specs.declared.report.Report.{Report}
use Rattle.js_session.specs.SameRows.{SameRows}
use Rattle.js_rewrite.proofs.Causes.{sound_no_cause}
use Rattle.js_rewrite.proofs.Positions.{all_may, all_quiet}
use Rattle.js_squeeze.specs.SqueezeText.{squeeze_text}
use Rattle.js_squeeze.proofs.SameReports.{same_reports, tokens_lie}
use Rattle.js_squeeze.proofs.Shorter.{squeezed_short}
use Rattle.js_squeeze.proofs.squeezing.squeeze_source.Goals as goal

pub squeeze_by-requires-clause-short : goal.squeeze_by-requires-clause-short
squeeze_by-requires-clause-short c =
    let report = c.in-Ok-clean_report.report in
    let shorter =
    squeezed_short c.args.source.now c.args.source_type c.args.commands.now report
    (all_may c.args.source_type c.args.commands.now c.in-Ok.ensures.ok.1)
    (all_quiet report.rows c.in-Ok-clean_report.ensures.clean) c.in-Ok-clean_report.ensures.report in
    let short = c.in-Ok.ensures.ok.0.short in
    subst (λ text. length (squeeze_text text report) < 2 ^ 32) (sym c.in-Ok.ensures.text) (omega (arith, shorter, short))

pub squeeze_by-requires-clause-lie : goal.squeeze_by-requires-clause-lie
squeeze_by-requires-clause-lie c =
    let report = c.in-Ok-clean_report.report in
    subst (λ text. AllByRecursion (IsOnPlaces text) report.tokens) (sym c.in-Ok.ensures.text)
    (tokens_lie c.args.source.now c.args.source_type c.args.commands.now report
    (all_may c.args.source_type c.args.commands.now c.in-Ok.ensures.ok.1)
    (all_quiet report.rows c.in-Ok-clean_report.ensures.clean) c.in-Ok-clean_report.ensures.report)

pub returns-in-Ok-squeeze_by-clause-ok : goal.returns-in-Ok-squeeze_by-clause-ok
returns-in-Ok-squeeze_by-clause-ok c =
    λ fault is. sound_no_cause c.args.source.now c.args.source_type c.args.commands.now fault
    (record {
      readable = c.in-Ok.ensures.ok.0;
      no_bad = c.in-Ok.ensures.ok.1;
      report = c.in-Ok-clean_report.report;
      report_is = c.in-Ok-clean_report.ensures.report;
      clean = c.in-Ok-clean_report.ensures.clean;
    })
    is

pub returns-in-Ok-squeeze_by-clause-same : goal.returns-in-Ok-squeeze_by-clause-same
returns-in-Ok-squeeze_by-clause-same c =
    let source = c.args.source.now in
    let t = c.args.source_type in
    let commands = c.args.commands.now in
    let report = c.in-Ok-clean_report.report in
    let s = c.in-Ok-squeeze_by.squeezed in
    subst (λ (r : Report). SameRows source r s.text s.after) (sym c.in-Ok-squeeze_by.ensures.before)
    (same_reports source s.text t commands report s.after (all_may t commands c.in-Ok.ensures.ok.1)
    (all_quiet report.rows c.in-Ok-clean_report.ensures.clean) c.in-Ok-clean_report.ensures.report
    (c.in-Ok-squeeze_by.ensures.text ∙ ap (λ text. squeeze_text text report) c.in-Ok.ensures.text)
    c.in-Ok-squeeze_by.ensures.after)
