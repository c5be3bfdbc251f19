use Rattle.std.proofs.Common.{◌∙◌, ap, sym}
use Rattle.std.specs.Prelude.{length}
use Rattle.js_session.proofs.PlaceLemmas.{length-marks_in}
use Rattle.js_session.proofs.mark_list.MarkList.len.Goals as goal

pub returns : goal.returns
returns c =
    c.len.ensures ∙ sym (length-marks_in c.self.inside.places.items c.self.invariant)
    ∙ ap (λ l. length l.items) c.self.view_is
