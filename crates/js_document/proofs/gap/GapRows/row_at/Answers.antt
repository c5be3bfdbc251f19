use Rattle.std.proofs.Common.{subst, sym}
use Rattle.js_document.specs.Gap.{AreInOrder, rows_of}
use Rattle.js_document.specs.LiveTokens.{IsRowAt}
use Rattle.js_document.proofs.GapLemmas.{whole}
use Rattle.js_document.proofs.RowPlaces.{row_at_of}
use Rattle.js_document.proofs.gap.GapRows.row_at.Goals as goal

pub starts_up_to-requires : goal.starts_up_to-requires
starts_up_to-requires g c =
    subst (λ es. AreInOrder (rows_of es)) (whole c.self.inside.rows c.self.inside.gap c.self.inside.pad c.args.self.now c.self.view_is) c.requires

pub returns : goal.returns
returns g c =
    subst (λ es. IsRowAt c.args.place (rows_of es) c.checked_sub.result)
    (sym (whole c.self.inside.rows c.self.inside.gap c.self.inside.pad c.args.self.now c.self.view_is))
    (row_at_of c.self.inside.rows c.args.place c.starts_up_to.result c.starts_up_to.ensures c.checked_sub.result
    c.checked_sub.ensures)
