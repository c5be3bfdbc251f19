use Rattle.std.proofs.Common.{◌≡◌, ◌<◌, subst, true, length}
use Rattle.std.specs.Prelude.{◌^◌}
use Rattle.std.specs.List.{list_all}
use Rattle.js_session.specs.Effects.{is_lasting}
use Rattle.js_relex.proofs.Causes.{complete_edit, exact_edit, no_edit_cause}
use Rattle.js_relex.proofs.document.LexDoc.into_relexed.Goals as goal

pub returns-in-Err-clause-exact : goal.returns-in-Err-clause-exact
returns-in-Err-clause-exact g c = λ fault h.
    exact_edit c.args.self.text c.args.edit.now.start c.args.edit.now.end c.args.edit.now.text.now c.args.commands.now
    c.in-Err.fault fault c.in-Err.ensures.cause h

pub returns-in-Err-clause-complete : goal.returns-in-Err-clause-complete
returns-in-Err-clause-complete g c = λ edit short lasting.
    complete_edit c.args.self.text c.args.edit.now.start c.args.edit.now.end c.args.edit.now.text.now
    c.args.commands.now c.in-Err.fault c.in-Err.ensures.cause edit short lasting

pub returns-in-Ok-put_in_place-clause-exact : goal.returns-in-Ok-put_in_place-clause-exact
returns-in-Ok-put_in_place-clause-exact g c = λ fault h.
    let p = c.in-Ok.ensures.prepares in
    no_edit_cause c.args.self.text c.args.edit.now.start c.args.edit.now.end c.args.edit.now.text.now
    c.args.commands.now fault p.edit (subst (λ t. length t < 2 ^ 32) p.text_is p.short)
    (subst (λ cs. list_all is_lasting cs ≡ true) c.in-Ok.ensures.commands p.lasting) h
