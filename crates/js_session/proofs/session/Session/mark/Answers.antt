use Rattle.std.proofs.Common.{◌∙◌, ap}
use Rattle.js_session.specs.declared.command.Command.TheVariants.{Mark}
use Rattle.js_session.specs.Session.{after_command}
use Rattle.js_session.proofs.StepLemmas.{order_mark, mark_is}
use Rattle.js_session.proofs.session.Session.mark.Goals as goal

pub invariant_of-self : goal.invariant_of-self
invariant_of-self g c =
    order_mark c.self.inside.reader c.self.inside.marks.items c.push_reserved.new.self.items c.mark-mark.result
    c.push_reserved.ensures.items c.mark-mark.ensures c.self.invariant

pub returns : goal.returns
returns g c =
    mark_is c.self.inside.reader c.self.inside.marks.items c.push_reserved.new.self.items c.self.inside.marks.free
    c.push_reserved.new.self.free c.mark-mark.result c.push_reserved.ensures.items c.push_reserved.ensures.free
    c.mark-mark.ensures c.self.invariant
    ∙ ap (after_command Mark) c.self.view_is
