use Rattle.std.proofs.Common.{ap, sym}
use Rattle.js_document.specs.Found.{counts_in, found_by}
use Rattle.js_document.specs.Gap.{rows_of}
use Rattle.js_document.proofs.BlockLemmas.{given_as}
use Rattle.js_document.proofs.GapLemmas.{front_is}
use Rattle.js_document.proofs.gap.GapRows.front_found.Goals as goal

pub found_up_to-requires : goal.found_up_to-requires
found_up_to-requires g c = c.self.invariant.few

pub returns : goal.returns
returns g c =
    given_as c.found_up_to.result _ _ c.found_up_to.ensures
    (ap (λ es. counts_in (found_by (rows_of es)))
    (sym (front_is c.self.inside.rows c.self.inside.gap c.self.inside.pad c.args.self.now c.self.view_is)))
