use Rattle.std.proofs.Common.{◌∙◌, ap}
use Rattle.std.specs.Prelude.{length}
use Rattle.js_session.proofs.StepLemmas.{length_marks}
use Rattle.js_session.proofs.session.Session.marks.Goals as goal

pub returns : goal.returns
returns g c =
    c.len.ensures ∙ length_marks c.self.inside.reader c.self.inside.marks.items
    ∙ ap (λ s. length s.state.marks) c.self.view_is
