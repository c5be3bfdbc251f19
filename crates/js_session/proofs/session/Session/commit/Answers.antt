use Rattle.std.proofs.Common.{◌∙◌, ap, sym, subst, ◌<◌}
use Rattle.std.specs.Prelude.{length}
use Rattle.js_session.specs.declared.command.Command.TheVariants.{Commit}
use Rattle.js_session.specs.Session.{after_command}
use Rattle.js_session.proofs.StepLemmas.{order_commit, commit_is}
use Rattle.js_session.proofs.session.Session.commit.Goals as goal

pub invariant_of-self : goal.invariant_of-self
invariant_of-self g c =
    order_commit c.self.inside.reader c.self.inside.marks.items c.pop.new.self.items c.pop.result c.pop.ensures.items
    c.pop.ensures.found
    (subst (λ s. 0 < length s.state.marks) (sym c.self.view_is) c.requires) c.self.invariant

pub returns : goal.returns
returns g c =
    commit_is c.self.inside.reader c.self.inside.marks.items c.pop.new.self.items c.self.inside.marks.free
    c.pop.new.self.free c.pop.result c.pop.ensures.items c.pop.ensures.free c.pop.ensures.found
    (subst (λ s. 0 < length s.state.marks) (sym c.self.view_is) c.requires) c.self.invariant
    ∙ ap (after_command Commit) c.self.view_is
