use Rattle.std.proofs.Common.{◌∙◌, ap, rules}
use Rattle.std.specs.Prelude.{slice_get}
use Rattle.std.proofs.lemmas.Result.{on_ok_weaker}
use Rattle.js_totsenak.proofs.TakenLemmas.{same_token}
use Rattle.js_totsenak.proofs.ValueLemmas.{line_of_text}
use Rattle.js_totsenak.proofs.values.push_listed.Goals as goal

pub returns : goal.returns
returns c =
    on_ok_weaker c.push_text.result
    (λ h taken x has at.
    line_of_text c.args.source.now x c.args.token.now _ _ _
    (same_token c.args.lists.now taken c.args.index c.args.token.now x has c.requires.listed at) (search rules)
    (c.value.ensures taken x has (ap (slice_get taken) c.in_ok-index.ensures ∙ at)) h) c.push_text.ensures
