use Rattle.std.proofs.Common.{◌∙◌, ap, arith, sym}
use Rattle.std.proofs.lemmas.List.{take_all}
use Rattle.js_document.specs.Gap.{count_tokens, rows_of}
use Rattle.js_document.proofs.GapLemmas.{whole}
use Rattle.js_document.proofs.gap.GapRows.tokens.Goals as goal

pub tokens_up_to-requires : goal.tokens_up_to-requires
tokens_up_to-requires g c = (let all = c.len.ensures in omega (arith, all))

pub returns : goal.returns
returns g c =
    let rows = c.self.inside.rows in
    let all = c.len.ensures in
    c.tokens_up_to.ensures
    ∙ ap (λ es. count_tokens (rows_of es)) (take_all c.len.result rows (omega (arith, all)))
    ∙ ap (λ es. count_tokens (rows_of es))
    (sym (whole c.self.inside.rows c.self.inside.gap c.self.inside.pad c.args.self.now c.self.view_is))
