use Rattle.std.proofs.Common.{subst}
use Rattle.std.proofs.lemmas.Result.{on_ok_weaker}
use Rattle.std.specs.Prelude.{reverse}
use Rattle.js_session.specs.declared.command.Command.TheVariants.{Peek}
use Rattle.js_session.specs.Session.{AddsRow}
use Rattle.js_session.proofs.StepLemmas.{either_way, order_peeked, order_undone, peek_adds_row, in_order_lies, seen}
use Rattle.js_session.proofs.session.Session.step_peek.Goals as goal

pub invariant_of-self : goal.invariant_of-self
invariant_of-self g c =
    either_way c.add_row.result c.add_row.ensures.ok c.add_row.ensures.err
    (λ adds. order_peeked _ _ c.self.inside.reader c.add_row.new.self
    (reverse c.self.inside.marks.items) c.self.invariant adds)
    (λ undone. order_undone c.self.inside.reader c.add_row.new.self
    (reverse c.self.inside.marks.items) c.self.invariant undone)

pub returns-clause-ok : goal.returns-clause-ok
returns-clause-ok g c =
    on_ok_weaker c.add_row.result
    (λ adds. let marks = c.self.inside.marks in
    subst (λ s. AddsRow Peek s (seen c.add_row.new.self marks.items marks.free)) c.self.view_is
    (peek_adds_row c.self.inside.reader c.add_row.new.self marks.items marks.free c.self.invariant adds))
    c.add_row.ensures.ok

pub returns-clause-places : goal.returns-clause-places
returns-clause-places g c =
    in_order_lies c.add_row.new.self c.self.inside.marks.items (reverse c.self.inside.marks.items)
    c.self.inside.marks.free (invariant_of-self g c)
