use Rattle.std.proofs.lemmas.Result.{on_ok_weaker}
use Rattle.js_totsenak.proofs.TextLemmas.{two}
use Rattle.js_totsenak.specs.ItemJson.{diagnostic_head}
use Rattle.js_totsenak.proofs.item_json.push_diagnostic_head.Goals as goal

pub returns : goal.returns
unfolding diagnostic_head
returns c =
    on_ok_weaker c.push_text.result
    (λ h. two _ _ _ _ _
    (two _ _ _ _ _ (two _ _ _ _ _ c.in_ok-push_object_head.ensures c.in_ok-push_word.ensures)
    c.in_ok-push_word-2.ensures) h)
    c.push_text.ensures
