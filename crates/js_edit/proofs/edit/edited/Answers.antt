use Rattle.std.proofs.Common.{◌≡◌, ◌∙◌, ap, subst}
use Rattle.std.specs.Prelude.{IfOk}
use Rattle.js_edit.specs.Run.{IsEdited}
use Rattle.js_edit.specs.Words.{EditWords}
use Rattle.js_edit.proofs.Edits.{edited_by, none_for}
use Rattle.js_edit.proofs.edit.edited.Goals as goal

pub returns-clause-ok : goal.returns-clause-ok
returns-clause-ok g c =
    let line = c.line.inside in
    let words : EditWords = record {
      source_type = line.source_type;
      start = line.edit.start;
      end = line.edit.end;
      text = line.edit.text.now;
      commands = c.as_slice.result.now;
      new_commands = c.as_slice-2.result.now;
    } in
    let same : words ≡ c.args.line.now =
    ap (λ cs. record words { commands = cs }) c.as_slice.ensures
    ∙ ap (λ cs. record words { commands = line.commands; new_commands = cs }) c.as_slice-2.ensures ∙ c.line.view_is in
    subst (λ w. IfOk c.relex.result (IsEdited w c.args.source.now)) same
    (edited_by words c.args.source.now c.in-Ok.old _ _ c.relex.result c.in-Ok.ensures.document
    (none_for c.in-Ok.old c.in-Ok.ensures.exact) c.relex.ensures.relexes c.relex.ensures.exact)
