use Rattle.std.proofs.Common.{sym, ◌∙◌}
use Rattle.std.proofs.lemmas.Bool.{and_parts}
use Rattle.std.specs.Prelude.{slice_get}
use Rattle.js_lexer.specs.Lexer.{token_or_default}
use Rattle.js_jsx.specs.Choice.{kept_last}
use Rattle.js_jsx.proofs.ChooserLemmas.{chosen_by}
use Rattle.js_jsx.proofs.PlainLemmas.{plain_command}
use Rattle.js_jsx.proofs.chooser.JsxChooser.command.Goals as goal

pub returns-then-both : goal.returns-then-both
returns-then-both c =
    let tests = and_parts c.is_plain.result c.is_idle.result (sym c.both.ensures ∙ c.if-both.true) in
    let old = c.self.inside in
    let last = kept_last old.has_last old.last in
    λ tokens told.
    sym
    (plain_command (slice_get c.args.text.now (token_or_default last).end) old.state old.has_last old.last
    (sym c.is_plain.ensures ∙ tests.0) (sym c.is_idle.ensures ∙ tests.1))
    ∙ chosen_by c.args.text.now tokens (record { state = old.state; last = last }) (c.self.view_is ∙ told)
