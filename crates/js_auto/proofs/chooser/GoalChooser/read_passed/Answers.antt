use Rattle.std.proofs.Common.{◌∙◌, ap, Some}
use Rattle.std.specs.Prelude.{unwrap_or}
use Rattle.js_kind.specs.declared.kind.Kind.{Kind}
use Rattle.js_kind.specs.declared.kind.Kind.TheVariants.{Eof}
use Rattle.js_auto.specs.Choice.{Chooser}
use Rattle.js_auto.proofs.ChooserLemmas.{kept_or_eof, told_on}
use Rattle.js_auto.proofs.chooser.GoalChooser.read_passed.Goals as goal

pub returns : goal.returns
returns c = λ tokens told.
    let old = c.self.inside in
    let kind = c.args.token.now.kind in
    ap (λ (before : Kind). record { stack = old.braces; before = before; last = Some kind })
    (kept_or_eof old.has_last old.last.kind c.self.invariant)
    ∙ ap (λ (s : Chooser). record { stack = s.stack; before = unwrap_or s.last Eof; last = Some kind }) c.self.view_is
    ∙ told_on tokens c.args.token.now c.args.self.now told
