use Rattle.std.proofs.lemmas.Result.{on_ok_weaker}
use Rattle.js_totsenak.proofs.TextLemmas.{two}
use Rattle.js_totsenak.specs.ItemJson.{warning_json}
use Rattle.js_totsenak.proofs.item_json.push_warning.Goals as goal

pub returns-clause-text : goal.returns-clause-text
unfolding warning_json
returns-clause-text c =
    on_ok_weaker c.push_piece.result
    (λ h. two _ _ _ _ _ (two _ _ _ _ _ c.in_ok-push_diagnostic_head.ensures c.in_ok-push_stretch.ensures.text) h)
    c.push_piece.ensures
