use Rattle.std.proofs.lemmas.Result.{on_ok_weaker}
use Rattle.js_totsenak.proofs.TextLemmas.{two}
use Rattle.js_totsenak.specs.ItemJson.{sides_members}
use Rattle.js_totsenak.proofs.item_json.push_sides.Goals as goal

pub returns : goal.returns
unfolding sides_members
returns c = on_ok_weaker c.push_flag-2.result (λ h. two _ _ _ _ _ c.in_ok-push_flag.ensures h) c.push_flag-2.ensures
