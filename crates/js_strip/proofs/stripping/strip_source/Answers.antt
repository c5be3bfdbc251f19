use Rattle.std.proofs.Common.{◌∙◌, ◌<◌, ap, arith, false, length, subst, sym}
use Rattle.std.specs.Prelude.{◌^◌}
use Rattle.js_session.specs.declared.report.Report.{Report}
use Rattle.js_session.specs.SameRows.{SameRows}
use Rattle.js_strip.specs.StripText.{StandInOrder, strip_text}
use Rattle.js_rewrite.proofs.Causes.{sound_no_cause}
use Rattle.js_rewrite.proofs.Positions.{all_last, all_may, all_quiet}
use Rattle.js_strip.proofs.SameReports.{same_reports}
use Rattle.js_strip.proofs.StandingRows.{report_stands}
use Rattle.js_strip.proofs.StrippedText.{stripped_short}
use Rattle.js_strip.proofs.stripping.strip_source.Goals as goal

pub strip_text_of-requires-clause-short : goal.strip_text_of-requires-clause-short
strip_text_of-requires-clause-short c =
    let t = c.args.source_type in
    let commands = c.args.commands.now in
    let report = c.in-Ok-clean_report.report in
    let stand =
    report_stands c.args.source.now t false commands report (all_last t commands c.in-Ok.ensures.ok.1)
    c.in-Ok-clean_report.ensures.report in
    let shorter = stripped_short c.args.source.now report.comments stand in
    let short = c.in-Ok.ensures.ok.0.short in
    subst (λ text. length (strip_text text report.comments) < 2 ^ 32) (sym c.in-Ok.ensures.text)
    (omega (arith, shorter, short))

pub strip_text_of-requires-clause-comments : goal.strip_text_of-requires-clause-comments
strip_text_of-requires-clause-comments c =
    let t = c.args.source_type in
    let commands = c.args.commands.now in
    let report = c.in-Ok-clean_report.report in
    subst (λ text. StandInOrder text 0 report.comments) (sym c.in-Ok.ensures.text)
    (report_stands c.args.source.now t false commands report (all_last t commands c.in-Ok.ensures.ok.1)
    c.in-Ok-clean_report.ensures.report)

pub returns-in-Ok-strip_text_of-clause-ok : goal.returns-in-Ok-strip_text_of-clause-ok
returns-in-Ok-strip_text_of-clause-ok c =
    λ fault is. sound_no_cause c.args.source.now c.args.source_type c.args.commands.now fault
    (record {
      readable = c.in-Ok.ensures.ok.0;
      no_bad = c.in-Ok.ensures.ok.1;
      report = c.in-Ok-clean_report.report;
      report_is = c.in-Ok-clean_report.ensures.report;
      clean = c.in-Ok-clean_report.ensures.clean;
    })
    is

pub returns-in-Ok-strip_text_of-clause-same : goal.returns-in-Ok-strip_text_of-clause-same
returns-in-Ok-strip_text_of-clause-same c =
    let source = c.args.source.now in
    let t = c.args.source_type in
    let commands = c.args.commands.now in
    let report = c.in-Ok-clean_report.report in
    let report_is = c.in-Ok-clean_report.ensures.report in
    let no_bad = c.in-Ok.ensures.ok.1 in
    let s = c.in-Ok-strip_text_of.stripped in
    subst (λ (r : Report). SameRows source r s.text s.after) (sym c.in-Ok-strip_text_of.ensures.before)
    (same_reports source s.text t commands report s.after (all_may t commands no_bad)
    (all_quiet report.rows c.in-Ok-clean_report.ensures.clean)
    (report_stands source t false commands report (all_last t commands no_bad) report_is) report_is
    (c.in-Ok-strip_text_of.ensures.text ∙ ap (λ text. strip_text text report.comments) c.in-Ok.ensures.text)
    c.in-Ok-strip_text_of.ensures.after)
