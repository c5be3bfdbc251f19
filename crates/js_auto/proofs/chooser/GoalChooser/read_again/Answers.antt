use Rattle.std.proofs.Common.{sym, ◌∙◌, ap}
use Rattle.std.specs.Prelude.{is_some}
use Rattle.js_auto.specs.Choice.{Chooser, kept_last}
use Rattle.js_auto.proofs.ChooserLemmas.{chooser-with_last_none, kept_some, told_again}
use Rattle.js_auto.proofs.chooser.GoalChooser.read_again.Goals as goal

pub returns-then-self : goal.returns-then-self
returns-then-self c =
    let old = c.self.inside in
    λ tokens told. rw c.if-self.true
    (told_again tokens c.args.token.now
    (record { stack = old.braces; before = old.before.kind; last = kept_last old.has_last old.last.kind })
    (c.self.view_is ∙ told) (kept_some old.has_last old.last.kind ∙ c.if-self.true))

pub returns-else-self : goal.returns-else-self
returns-else-self c =
    let old = c.self.inside in
    λ tokens told. told
    ∙ sym (chooser-with_last_none tokens c.args.token.now
    (sym (ap (λ (s : Chooser). is_some s.last) (c.self.view_is ∙ told)) ∙ kept_some old.has_last old.last.kind
    ∙ c.if-self.false))
