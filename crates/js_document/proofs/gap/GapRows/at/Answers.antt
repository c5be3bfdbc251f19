use Rattle.std.proofs.Common.{◌∙◌, ap, arith, length}
use Rattle.std.specs.Prelude.{slice_get}
use Rattle.js_document.proofs.GapLemmas.{whole}
use Rattle.js_document.proofs.gap.GapRows.at.Goals as goal

pub at-requires : goal.at-requires
at-requires g c =
    let same = ap (λ es. length es) (whole c.self.inside.rows c.self.inside.gap c.self.inside.pad c.args.self.now c.self.view_is) in
    let less = c.requires in
    omega (arith, same, less)

pub returns : goal.returns
returns g c =
    ap (λ es. slice_get es c.args.index) (whole c.self.inside.rows c.self.inside.gap c.self.inside.pad c.args.self.now c.self.view_is)
    ∙ c.at.ensures
