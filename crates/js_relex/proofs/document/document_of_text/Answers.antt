use Rattle.std.proofs.Common.{◌≡◌, ap, ◌∙◌, ◌++◌, subst, sym, false}
use Rattle.std.specs.List.{list_all}
use Rattle.js_session.specs.Effects.{is_lasting}
use Rattle.js_session.specs.Report.{ReportOf}
use Rattle.js_relex.proofs.document.document_of_text.Goals as goal

pub invariant_of-result : goal.invariant_of-result
invariant_of-result g c =
    let held : c.extend_from_slice.new.self ≡ c.args.commands.now =
    c.in_ok-extend_from_slice.ensures.ok ∙ ap (λ xs. xs ++ c.args.commands.now) c.new_in-held.ensures in
    let copied : c.push_str.new.self ≡ c.args.text.now =
    c.in_ok-push_str.ensures.ok ∙ ap (λ xs. xs ++ c.args.text.now) c.new_in-copied.ensures in
    record {
      lasting = ap (list_all is_lasting) held ∙ c.requires.lasting;
      report_is =
          subst (λ x. ReportOf x c.args.source_type false c.extend_from_slice.new.self c.in_ok-outlined.outlined)
          (sym copied)
          (subst (λ y. ReportOf c.args.text.now c.args.source_type false y c.in_ok-outlined.outlined) (sym held)
          (subst (ReportOf c.args.text.now c.args.source_type false c.args.commands.now) (sym c.in_ok-outlined.ensures)
          c.in_ok-report.ensures.report));
    }
