use Rattle.std.proofs.Common.{◌∙◌, ap, length, sym}
use Rattle.js_document.proofs.GapLemmas.{whole}
use Rattle.js_document.proofs.gap.GapRows.len.Goals as goal

pub returns : goal.returns
returns g c =
    c.len.ensures
    ∙ ap (λ es. length es) (sym (whole c.self.inside.rows c.self.inside.gap c.self.inside.pad c.args.self.now c.self.view_is))
