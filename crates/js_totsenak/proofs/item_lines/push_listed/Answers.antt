use Rattle.std.proofs.Common.{◌≡◌, ◌∙◌, ap, length, refl, sym, Some}
use Rattle.std.proofs.lemmas.Option.{slice_get_read}
use Rattle.std.proofs.lemmas.Result.{on_ok_weaker}
use Rattle.std.specs.Prelude.{slice_get}
use Rattle.js_totsenak.proofs.ItemLemmas.{line_of_token}
use Rattle.js_totsenak.proofs.TextLemmas.{named}
use Rattle.js_totsenak.proofs.item_lines.push_listed.Goals as goal

pub returns-clause-text : goal.returns-clause-text
returns-clause-text c =
    let tokens = c.as_slice.result.now in
    let found : slice_get tokens c.args.index ≡ Some c.in-Some.token.now =
    slice_get_read tokens (length tokens) c.args.index c.in-Some.token.now refl c.in-Some.ensures.lookup.3.0
    c.in-Some.ensures.lookup.1 in
    let listed : slice_get c.args.lists.now.tokens c.args.index ≡ Some c.in-Some.token.now =
    ap (λ ts. slice_get ts c.args.index) (sym c.as_slice.ensures) ∙ found in
    on_ok_weaker c.push_token.result
    (λ h taken has.
    named _ _ _ _ h
    (line_of_token c.args.source.now c.args.lists.now taken c.args.index c.in-Some.token.now _ _ has listed
    (λ x at. c.value.ensures taken x has (ap (slice_get taken) c.in_ok-index.ensures ∙ at))
    (λ x at. c.regex.ensures taken x has (ap (slice_get taken) c.in_ok-index.ensures ∙ at)))) c.push_token.ensures.text
