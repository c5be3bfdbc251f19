use Rattle.std.proofs.Common.{◌≡◌, sym, ◌∙◌, ap, subst, true, Some}
use Rattle.std.specs.Prelude.{IfSome}
use Rattle.js_kind.specs.Kinds.{is_one_of}
use Rattle.js_kind.specs.declared.kind.Kind.{Kind}
use Rattle.js_grammar.specs.ReLexed.{again_kinds}
use Rattle.js_grammar.specs.declared.goal.Goal.TheVariants.{RegularExpression}
use Rattle.js_auto.specs.Choice.{Chooser, choice_behind, kept_last}
use Rattle.js_auto.proofs.ChooserLemmas.{expression_behind, part_behind}
use Rattle.js_auto.proofs.NotableLemmas.{kept_plain, reads_on}
use Rattle.js_auto.proofs.chooser.GoalChooser.command.Goals as goal

pub returns-then-not-is_notable-clause-choice : goal.returns-then-not-is_notable-clause-choice
returns-then-not-is_notable-clause-choice c =
    let old = c.self.inside in
    let last = old.last in
    let plain = kept_plain old.has_last last.kind (sym c.is_notable.ensures ∙ c.if-not-is_notable.true) in
    λ tokens told. sym (reads_on old.braces old.before.kind (kept_last old.has_last last.kind) plain)
    ∙ ap (λ (s : Chooser). choice_behind s.stack s.before s.last) (c.self.view_is ∙ told)

pub returns-clause-choice : goal.returns-clause-choice
returns-clause-choice c =
    let old = c.self.inside in
    let last = sym c.in-Some.is ∙ c.last.ensures in
    λ tokens told. c.command_behind.ensures old.braces c.is_in_substitution.ensures
    ∙ ap (λ (k : Kind). choice_behind old.braces k (Some c.in-Some.last)) c.kind.ensures
    ∙ ap (choice_behind old.braces old.before.kind) (last ∙ sym (ap (λ (s : Chooser). s.last) c.self.view_is))
    ∙ ap (λ (s : Chooser). choice_behind s.stack s.before s.last) (c.self.view_is ∙ told)

pub returns-clause-part : goal.returns-clause-part
returns-clause-part c = λ chosen.
    let old = c.self.inside in
    sym c.last.ensures ∙ c.in-Some.is
    ∙ ap Some (part_behind old.braces old.before.kind c.in-Some.last
    (sym (c.command_behind.ensures old.braces c.is_in_substitution.ensures
    ∙ ap (λ (k : Kind). choice_behind old.braces k (Some c.in-Some.last)) c.kind.ensures) ∙ chosen))

pub returns-clause-expression : goal.returns-clause-expression
returns-clause-expression c = λ chosen.
    let old = c.self.inside in
    let last = sym c.last.ensures ∙ c.in-Some.is in
    subst (λ o. IfSome o (λ kind. is_one_of (again_kinds RegularExpression) kind ≡ true)) (sym last)
    (expression_behind old.braces old.before.kind c.in-Some.last
    (sym (c.command_behind.ensures old.braces c.is_in_substitution.ensures
    ∙ ap (λ (k : Kind). choice_behind old.braces k (Some c.in-Some.last)) c.kind.ensures) ∙ chosen))
