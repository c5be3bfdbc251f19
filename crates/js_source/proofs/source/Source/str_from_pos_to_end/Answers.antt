use Rattle.std.proofs.Common.{sym, ◌∙◌}
use Rattle.js_text.proofs.TextLemmas.{rest_bytes as bytes_from}
use Rattle.js_source.proofs.source.Source.str_from_pos_to_end.Goals as goal

pub returns-clause-characters : goal.returns-clause-characters
returns-clause-characters c =
    rw (← c.self.view_is, ← c.pos.view_is) (
    c.range_from.ensures.value
    ∙ sym (bytes_from _ _ c.self.inside.placed.utf8 (rw (← c.self.view_is, ← c.pos.view_is) at c.requires))
    )
