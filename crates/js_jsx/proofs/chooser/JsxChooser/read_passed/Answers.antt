use Rattle.std.proofs.Common.{◌∙◌}
use Rattle.js_jsx.specs.Choice.{kept_last}
use Rattle.js_jsx.proofs.ChooserLemmas.{told_on}
use Rattle.js_jsx.proofs.chooser.JsxChooser.read_passed.Goals as goal

pub returns : goal.returns
returns c = λ tokens told.
    let old = c.self.inside in
    told_on tokens c.args.token.now (record { state = old.state; last = kept_last old.has_last old.last })
    (c.self.view_is ∙ told)
