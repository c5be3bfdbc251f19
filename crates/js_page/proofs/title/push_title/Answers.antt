use Rattle.std.proofs.Common.{◌∙◌, ◌++◌, ap, sym, map-id, string_bytes}
use Rattle.std.proofs.lemmas.Iterator.{YieldsList-from_chars}
use Rattle.std.proofs.lemmas.Iterator.Consumers.{YieldsList-end}
use Rattle.std.specs.List.{flat_map}
use Rattle.js_page.specs.Characters.{in_title}
use Rattle.js_page.proofs.title.push_title.Goals as goal

pub returns : goal.returns
returns c =
    let characters = YieldsList-from_chars c.args.title.now c.utf8.title cc in
    let done = YieldsList-end characters c.loop-c.yielded _ c.loop-c.yielded_by _ _ c.in-None.is c.next.ensures.steps in
    c.loop-c.invariant
    ∙ ap (λ cs. string_bytes c.args.text.now ++ flat_map in_title cs) (sym (map-id c.loop-c.yielded) ∙ done.0)
