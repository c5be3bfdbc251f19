use Rattle.std.proofs.Common.{ap, sym, ◌∙◌, None}
use Rattle.std.specs.List.{last_or}
use Rattle.std.specs.Str.{chars}
use Rattle.std.proofs.lemmas.Str.{Chars-Drains, chars-encodes}
use Rattle.js_squeeze.proofs.space.last_character.Goals as goal

pub returns : goal.returns
returns c =
    let d = c.last.ensures.ran in
    let u = c.utf8.text in
    d.2
    ∙ ap (last_or None)
    (Chars-Drains u.0 d.0 c.chars.result (u.1.1 ∙ sym c.chars.ensures.rest) d.1
    ∙ sym (ap chars (sym u.1.1) ∙ chars-encodes u.0 u.1.0))
