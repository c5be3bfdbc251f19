use Rattle.std.proofs.Common.{sym, ◌∙◌, ap}
use Rattle.js_auto.specs.Choice.{Chooser}
use Rattle.js_auto.specs.Notable.{is_notable}
use Rattle.js_auto.proofs.ChooserLemmas.{passed}
use Rattle.js_auto.proofs.NotableLemmas.{kept_plain, leaves_chooser}
use Rattle.js_auto.proofs.chooser.GoalChooser.pass.Goals as goal

pub returns-in_ok-pass_last-clause-ok : goal.returns-in_ok-pass_last-clause-ok
returns-in_ok-pass_last-clause-ok c = λ tokens told.
    c.in_ok-pass_last.ensures.ok ∙ passed tokens c.args.self.now told

pub returns-else-is_notable-clause-ok : goal.returns-else-is_notable-clause-ok
returns-else-is_notable-clause-ok c =
    let old = c.args.self.now in
    let last = c.self.inside.last in
    let plain = kept_plain c.self.inside.has_last last.kind (sym c.is_notable.ensures ∙ c.if-is_notable.false) in
    λ tokens told. leaves_chooser old (sym (ap (λ (s : Chooser). is_notable s.last) c.self.view_is) ∙ plain)
    ∙ passed tokens old told
