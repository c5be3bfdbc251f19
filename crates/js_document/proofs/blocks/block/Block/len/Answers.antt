use Rattle.std.proofs.Common.{◌∙◌, ap, length, sym}
use Rattle.std.proofs.lemmas.List.{length-map}
use Rattle.js_document.specs.Gap.{shifted_entry}
use Rattle.js_document.proofs.blocks.block.Block.len.Goals as goal

pub returns : goal.returns
returns g c =
    c.len.ensures ∙ c.self.inside.entries.ok.0
    ∙ sym (length-map c.self.inside.entries.items (shifted_entry c.self.inside.shift.from c.self.inside.shift.to))
    ∙ ap (λ b. length b.entries) c.self.view_is
