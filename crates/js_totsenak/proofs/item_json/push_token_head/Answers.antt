use Rattle.std.proofs.Common.{◌∙◌, ap, codes}
use Rattle.std.proofs.lemmas.Result.{on_ok_weaker}
use Rattle.js_kind.specs.Kinds.{kind_name}
use Rattle.js_totsenak.proofs.TextLemmas.{named, two}
use Rattle.js_totsenak.specs.ItemJson.{token_head}
use Rattle.js_totsenak.specs.Members.{word_member}
use Rattle.js_totsenak.specs.PlaceJson.{stretch_members}
use Rattle.js_totsenak.proofs.item_json.push_token_head.Goals as goal

pub returns-clause-text : goal.returns-clause-text
unfolding token_head
returns-clause-text c =
    on_ok_weaker c.push_token_flags.result
    (λ h. two _ _ _ _ _
    (two _ _ _ _ _
    (two _ _ _ _ _ c.in_ok-push_object_head.ensures
    (named _ _ _ _ c.in_ok-push_word.ensures (ap (word_member (codes "kind")) (c.name.ensures ∙ ap kind_name c.kind.ensures))))
    (named _ _ _ _ c.in_ok-push_stretch.ensures.text (ap (stretch_members c.args.places.now.lines.text) c.span.ensures))) h)
    c.push_token_flags.ensures
