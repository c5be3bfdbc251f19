use Rattle.std.proofs.Common.{inl, inr, false}
use Rattle.js_session.specs.declared.report.Report.{Report}
use Rattle.js_session.proofs.Unique.{report_unique}
use Rattle.js_rewrite.proofs.Causes.{sound_no_cause}
use Rattle.js_totsenak.specs.Rewritten.{IsAnew}
use Rattle.js_totsenak.proofs.ChosenAnew.{chosen_sound}
use Rattle.std.proofs.Common.{subst}
use Rattle.js_totsenak.proofs.rewritten.chosen_text.Goals as goal

pub lack_of_memory-requires : goal.lack_of_memory-requires
lack_of_memory-requires c =
    let source = c.args.source.now in
    let commands = c.args.commands.now in
    let clean = c.requires in
    elim c.in-Err.ensures.cause [
      | inl e ↦ e
      | inr cause ↦
          absurd (sound_no_cause source c.args.source_type commands c.in-Err.fault
          (chosen_sound source c.args.source_type commands clean.report clean.report_is clean.clean) cause)
    ]

pub returns-in-Ok : goal.returns-in-Ok
returns-in-Ok c =
    let source = c.args.source.now in
    let t = c.args.source_type in
    let commands = c.args.commands.now in
    let clean = c.requires in
    let anew = c.in-Ok.ensures.anew in
    record {
      commands = commands;
      report = clean.report;
      report_is = clean.report_is;
      clean = clean.clean;
      anew =
          subst (λ (report : Report). IsAnew c.args.rewriting source t commands report c.in-Ok.text)
          (report_unique source t false commands anew.report clean.report anew.report_is clean.report_is.report_is)
          anew.anew;
    }
