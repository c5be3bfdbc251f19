use Rattle.std.proofs.Common.{◌∙◌, ap}
use Rattle.std.specs.Prelude.{reverse}
use Rattle.js_session.specs.declared.command.Command.TheVariants.{Rewind}
use Rattle.js_session.specs.Session.{after_command}
use Rattle.js_session.proofs.StepLemmas.{may_rewind, order_rewind, rewind_is, in_order_lies}
use Rattle.js_session.proofs.session.Session.rewind.Goals as goal

pub rewind-requires : goal.rewind-requires
rewind-requires g c =
    may_rewind c.self.inside.reader c.self.inside.marks.items c.pop.new.self.items c.in-Some.mark
    c.in-Some.ensures.items c.self.invariant

pub invariant_of-self : goal.invariant_of-self
invariant_of-self g c =
    order_rewind c.self.inside.reader c.rewind.new.self c.self.inside.marks.items c.pop.new.self.items c.in-Some.mark
    (record { ends = c.in-Some.ensures.items; in_order = c.self.invariant; back = c.rewind.ensures })

pub returns-in-Some-clause-state : goal.returns-in-Some-clause-state
returns-in-Some-clause-state g c =
    rewind_is c.self.inside.reader c.rewind.new.self c.self.inside.marks.items c.pop.new.self.items
    c.self.inside.marks.free c.pop.new.self.free c.in-Some.mark c.in-Some.ensures.free
    (record { ends = c.in-Some.ensures.items; in_order = c.self.invariant; back = c.rewind.ensures })
    ∙ ap (after_command Rewind) c.self.view_is

pub returns-in-Some-clause-places : goal.returns-in-Some-clause-places
returns-in-Some-clause-places g c =
    in_order_lies c.rewind.new.self c.pop.new.self.items (reverse c.pop.new.self.items) c.pop.new.self.free
    (invariant_of-self g c)
