use Rattle.std.proofs.Common.{ap, codes, sym}
use Rattle.std.proofs.lemmas.Result.{on_ok_weaker}
use Rattle.js_totsenak.proofs.TextLemmas.{named, two}
use Rattle.js_totsenak.specs.Members.{number_member}
use Rattle.js_totsenak.specs.RegexJson.{regex_members}
use Rattle.js_totsenak.proofs.regex_json.push_regex.Goals as goal

pub returns-in_ok-push_number-in-Some : goal.returns-in_ok-push_number-in-Some
returns-in_ok-push_number-in-Some c =
    on_ok_weaker c.push_all_flags.result
    (λ h. named _ _ _ _
    (two _ _ _ _ _ (named _ _ _ _ c.in_ok-push_number-in-Some.ensures (ap (number_member (codes "pattern_end")) c.from.ensures)) h)
    (ap regex_members (sym c.in-Some.is))) c.push_all_flags.ensures
