use Rattle.std.proofs.Common.{subst}
use Rattle.std.proofs.lemmas.Result.{on_ok_weaker}
use Rattle.std.specs.Prelude.{reverse, Some}
use Rattle.js_session.specs.Session.{AddsRow}
use Rattle.js_session.proofs.StepLemmas.{either_way, order_re_lexed, order_undone, re_lex_adds_row, in_order_lies, seen}
use Rattle.js_session.proofs.session.Session.step_again.Goals as goal

pub invariant_of-self : goal.invariant_of-self
invariant_of-self g c =
    either_way c.re_lex.result c.re_lex.ensures.ok c.re_lex.ensures.err
    (λ adds. order_re_lexed c.args.goal (Some c.args.command) c.self.inside.reader c.re_lex.new.self
    (reverse c.self.inside.marks.items) c.self.invariant adds)
    (λ undone. order_undone c.self.inside.reader c.re_lex.new.self
    (reverse c.self.inside.marks.items) c.self.invariant undone)

pub returns-clause-ok : goal.returns-clause-ok
returns-clause-ok g c =
    on_ok_weaker c.re_lex.result
    (λ adds. let marks = c.self.inside.marks in
    subst (λ s. AddsRow c.args.command s (seen c.re_lex.new.self marks.items marks.free)) c.self.view_is
    (re_lex_adds_row c.args.goal c.args.command c.self.inside.reader c.re_lex.new.self marks.items marks.free
    c.requires c.self.invariant adds))
    c.re_lex.ensures.ok

pub returns-clause-places : goal.returns-clause-places
returns-clause-places g c =
    in_order_lies c.re_lex.new.self c.self.inside.marks.items (reverse c.self.inside.marks.items)
    c.self.inside.marks.free (invariant_of-self g c)
