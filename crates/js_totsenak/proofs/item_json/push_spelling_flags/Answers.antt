use Rattle.std.proofs.Common.{ap, codes}
use Rattle.std.proofs.lemmas.Result.{on_ok_weaker}
use Rattle.js_totsenak.proofs.TextLemmas.{named, two}
use Rattle.js_totsenak.specs.ItemJson.{spelling_flags}
use Rattle.js_totsenak.specs.Members.{flag_member}
use Rattle.js_totsenak.proofs.item_json.push_spelling_flags.Goals as goal

pub returns : goal.returns
unfolding spelling_flags
returns c =
    on_ok_weaker c.push_flag-2.result
    (λ h. two _ _ _ _ _ (named _ _ _ _ c.in_ok-push_flag.ensures (ap (flag_member (codes "escaped")) c.escaped.ensures))
    (named _ _ _ _ h (ap (flag_member (codes "separator")) c.has_separator.ensures))) c.push_flag-2.ensures
