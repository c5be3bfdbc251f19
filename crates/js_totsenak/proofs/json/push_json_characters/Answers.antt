use Rattle.std.proofs.Common.{◌∙◌, ◌++◌, ap, sym, map-id, string_bytes}
use Rattle.std.proofs.lemmas.List.{flat_map_more}
use Rattle.std.proofs.lemmas.Iterator.{YieldsList-from_chars}
use Rattle.std.proofs.lemmas.Iterator.Consumers.{YieldsList-end}
use Rattle.std.specs.List.{flat_map}
use Rattle.js_totsenak.specs.Json.{json_character}
use Rattle.js_totsenak.proofs.json.push_json_characters.Goals as goal

pub returns : goal.returns
returns c =
    let characters = YieldsList-from_chars c.args.characters.now c.utf8.characters cc in
    let done = YieldsList-end characters c.loop-c.yielded _ c.loop-c.yielded_by _ _ c.in-None.is c.next.ensures.steps in
    c.loop-c.invariant
    ∙ ap (λ cs. string_bytes c.args.text.now ++ flat_map json_character cs) (sym (map-id c.loop-c.yielded) ∙ done.0)

pub loop-c-preserved : goal.loop-c-preserved
loop-c-preserved c =
    c.in_ok-push_json_character.ensures
    ∙ ap (λ bytes. bytes ++ json_character c.in-Some.c) c.loop-c.invariant
    ∙ flat_map_more json_character (string_bytes c.args.text.now) c.loop-c.yielded c.in-Some.c
