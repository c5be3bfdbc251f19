use Rattle.std.proofs.Common.{[], ◌∷◌, false, sym, subst}
use Rattle.js_text.specs.declared.source_type.SourceType.TheVariants.{Module}
use Rattle.js_session.specs.declared.command.Command.TheVariants.{Mark, Next, Rewind, Peek}
use Rattle.js_session.specs.Report.{ReportOf}
use Rattle.js_session_tests.proofs.driven.driven.Goals as goal

pub returns-in_ok-drive-in-Ok : goal.returns-in_ok-drive-in-Ok
returns-in_ok-drive-in-Ok g c =
    let text = c.args.text.now in
    let begun = c.a_session_begins_with_no_command.ensures text Module false c.in-Ok.session c.in-Ok.ensures.ok in
    let driven = c.in_ok-drive-in-Ok.ensures text Module false begun in
    subst (ReportOf text Module false (Mark ∷ Next ∷ Rewind ∷ Peek ∷ [])) (sym c.finish.ensures.report)
    (c.a_session_reports_its_commands.ensures text Module false (Mark ∷ Next ∷ Rewind ∷ Peek ∷ []) c.drive.new.session
    c.utf8.text c.requires driven)
