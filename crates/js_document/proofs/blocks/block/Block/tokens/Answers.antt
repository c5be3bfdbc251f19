use Rattle.std.proofs.Common.{◌∙◌, ap, sym}
use Rattle.js_document.specs.Gap.{count_tokens, rows_of}
use Rattle.js_document.proofs.GapLemmas.{count_shifted}
use Rattle.js_document.proofs.blocks.block.Block.tokens.Goals as goal

pub returns : goal.returns
returns g c =
    c.self.invariant.tokens_are
    ∙ sym (count_shifted c.self.inside.shift.from c.self.inside.shift.to c.self.inside.entries.items)
    ∙ ap (λ b. count_tokens (rows_of b.entries)) c.self.view_is
