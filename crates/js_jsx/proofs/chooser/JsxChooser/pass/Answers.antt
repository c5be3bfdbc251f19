use Rattle.std.proofs.Common.{sym, ◌∙◌, ap}
use Rattle.std.proofs.lemmas.Bool.{and_parts}
use Rattle.js_jsx.specs.Choice.{Chooser, kept_last}
use Rattle.js_jsx.specs.States.{State}
use Rattle.js_jsx.proofs.ChooserLemmas.{passed}
use Rattle.js_jsx.proofs.PlainLemmas.{plain_step}
use Rattle.js_jsx.proofs.chooser.JsxChooser.pass.Goals as goal

pub returns-then-both-clause-ok : goal.returns-then-both-clause-ok
returns-then-both-clause-ok c =
    let tests = and_parts c.is_plain.result c.is_idle.result (sym c.both.ensures ∙ c.if-both.true) in
    let old = c.self.inside in
    let last = kept_last old.has_last old.last in
    let before : Chooser = record { state = old.state; last = last } in
    λ tokens told.
    ap (λ (s : State). record before { state = s })
    (c.pass_idle.ensures
    ∙ plain_step old.state old.has_last old.last c.self.invariant (sym c.is_plain.ensures ∙ tests.0)
    (sym c.is_idle.ensures ∙ tests.1))
    ∙ passed tokens before (c.self.view_is ∙ told)

pub returns-in_ok-pass_last-clause-ok : goal.returns-in_ok-pass_last-clause-ok
returns-in_ok-pass_last-clause-ok c = λ tokens told.
    c.in_ok-pass_last.ensures.ok ∙ passed tokens c.args.self.now told
