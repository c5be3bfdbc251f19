-- The lines of tokens that were taken, as JSON.
use Rattle.std.proofs.Common.{◌≡◌, ℕ, List, ◌∙◌, ap, sym, Option, Some}
use Rattle.std.specs.Prelude.{slice_get}
use Rattle.js_kind.specs.TokenParts.{TokenParts}
use Rattle.js_lists.specs.Lists.{HasTaken}
use Rattle.js_lists.specs.Taken.{Taken}
use Rattle.js_lists.specs.declared.lists.LiveLists.{LiveLists}
use Rattle.js_text.specs.declared.reg_exp_flags.RegexInfo.{RegexInfo}
use Rattle.js_text.specs.declared.value.RowValue.{RowValue}
use Rattle.js_totsenak.proofs.TakenLemmas.{listed_at}
use Rattle.js_totsenak.specs.ItemJson.{token_json, token_or_nothing}

-- the line of a token that is listed, with its value and what is known of it as a regular expression
pub line_of_token : (source : List ℕ) (lists : LiveLists) (taken : List Taken) (index : ℕ) (token : TokenParts)
    (value : RowValue) (regex : Option RegexInfo) → HasTaken lists taken
    → slice_get lists.tokens index ≡ Some token → ((x : Taken) → slice_get taken index ≡ Some x → value ≡ x.value)
    → ((x : Taken) → slice_get taken index ≡ Some x → regex ≡ x.regex)
    → token_json source (record { token = token; value = value; regex = regex })
    ≡ token_or_nothing source (slice_get taken index)
line_of_token source lists taken index token value regex has listed values regexes =
    let t = listed_at lists taken index token has listed in
    ap (λ (part : TokenParts). token_json source (record { token = part; value = value; regex = regex })) (sym t.token_is)
    ∙ ap (λ (part : RowValue). token_json source (record { token = t.item.token; value = part; regex = regex }))
    (values t.item t.at)
    ∙ ap (λ (part : Option RegexInfo).
    token_json source (record { token = t.item.token; value = t.item.value; regex = part })) (regexes t.item t.at)
    ∙ ap (token_or_nothing source) (sym t.at)
