use Rattle.std.proofs.Common.{sym, ◌∙◌, ap}
use Rattle.std.specs.Prelude.{is_some}
use Rattle.js_jsx.specs.Choice.{Chooser, kept_last}
use Rattle.js_jsx.proofs.ChooserLemmas.{kept_some, told_again, told_none}
use Rattle.js_jsx.proofs.chooser.JsxChooser.read_again.Goals as goal

pub returns-then-self : goal.returns-then-self
returns-then-self c =
    let old = c.self.inside in
    λ tokens told. rw c.if-self.true
    (told_again tokens c.args.token.now
    (record { state = old.state; last = kept_last old.has_last old.last })
    (c.self.view_is ∙ told) (kept_some old.has_last old.last ∙ c.if-self.true))

pub returns-else-self : goal.returns-else-self
returns-else-self c =
    let old = c.self.inside in
    λ tokens told. told_none tokens c.args.token.now c.args.self.now told
    (sym (ap (λ (s : Chooser). is_some s.last) c.self.view_is) ∙ kept_some old.has_last old.last ∙ c.if-self.false)
