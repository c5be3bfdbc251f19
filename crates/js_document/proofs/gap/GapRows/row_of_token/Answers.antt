use Rattle.std.proofs.Common.{subst, sym}
use Rattle.js_document.specs.Gap.{rows_of}
use Rattle.js_document.specs.LiveTokens.{BeginsToken}
use Rattle.js_document.proofs.GapLemmas.{whole}
use Rattle.js_document.proofs.gap.GapRows.row_of_token.Goals as goal

pub returns : goal.returns
returns g c =
    subst (λ es. BeginsToken (rows_of es) c.args.index c.row_of_token.result)
    (sym (whole c.self.inside.rows c.self.inside.gap c.self.inside.pad c.args.self.now c.self.view_is))
    c.row_of_token.ensures
