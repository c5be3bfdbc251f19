use Rattle.std.proofs.Common.{◌∙◌, ap, sym}
use Rattle.js_document.specs.Gap.{count_tokens, rows_of}
use Rattle.js_document.proofs.GapLemmas.{front_is}
use Rattle.js_document.proofs.gap.GapRows.front_tokens.Goals as goal

pub tokens_up_to-requires : goal.tokens_up_to-requires
tokens_up_to-requires g c = c.self.invariant.few

pub returns : goal.returns
returns g c =
    c.tokens_up_to.ensures
    ∙ ap (λ es. count_tokens (rows_of es))
    (sym (front_is c.self.inside.rows c.self.inside.gap c.self.inside.pad c.args.self.now c.self.view_is))
