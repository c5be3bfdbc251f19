use Rattle.std.proofs.Common.{ap, codes}
use Rattle.std.proofs.lemmas.Result.{on_ok_weaker}
use Rattle.js_totsenak.proofs.TextLemmas.{named, two}
use Rattle.js_totsenak.specs.ItemJson.{token_flags}
use Rattle.js_totsenak.specs.Members.{flag_member}
use Rattle.js_totsenak.proofs.item_json.push_token_flags.Goals as goal

pub returns : goal.returns
unfolding token_flags
returns c =
    on_ok_weaker c.push_spelling_flags.result
    (λ h. two _ _ _ _ _
    (named _ _ _ _ c.in_ok-push_flag.ensures (ap (flag_member (codes "newline_before")) c.is_on_new_line.ensures)) h)
    c.push_spelling_flags.ensures
