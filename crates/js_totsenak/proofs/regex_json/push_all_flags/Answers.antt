use Rattle.std.proofs.lemmas.Result.{on_ok_weaker}
use Rattle.js_totsenak.proofs.TextLemmas.{two}
use Rattle.js_totsenak.specs.RegexJson.{all_flags}
use Rattle.js_totsenak.proofs.regex_json.push_all_flags.Goals as goal

pub returns : goal.returns
unfolding all_flags
returns c = on_ok_weaker c.push_flag.result (λ h. two _ _ _ _ _ c.in_ok-push_flags.ensures h) c.push_flag.ensures
