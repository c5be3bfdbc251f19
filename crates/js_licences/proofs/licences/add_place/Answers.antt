use Rattle.std.proofs.Common.{◌∙◌, ◌≡◌, ◌++◌, ◌∷◌, [], ap, sym}
use Rattle.std.specs.Option.{option_map}
use Rattle.std.proofs.lemmas.Option.{slice_get-map}
use Rattle.indexmap.specs.IndexMap.{set_value_at}
use Rattle.js_licences.proofs.Collected.{on_err, on_ok, same_places, some_is}
use Rattle.js_licences.proofs.licences.add_place.Goals as goal

pub returns-clause-ok : goal.returns-clause-ok
returns-clause-ok c =
    let entries = c.args.places.now.entries in
    let known =
    slice_get-map (λ e. e.1) entries c.args.index ∙ ap (option_map (λ e. e.1)) c.pair_mut-held.ensures.value in
    on_ok c.push.result (λ pushed held here.
    let same : c.pair_mut-held.result.1.now ≡ held = some_is _ _ (sym known ∙ here) in
    ap (λ places. set_value_at entries c.args.index places)
    (pushed ∙ ap (λ places. places ++ c.args.place ∷ []) same)) c.push.ensures.ok

pub returns-clause-err : goal.returns-clause-err
returns-clause-err c =
    let entries = c.args.places.now.entries in
    let known =
    slice_get-map (λ e. e.1) entries c.args.index ∙ ap (option_map (λ e. e.1)) c.pair_mut-held.ensures.value in
    on_err c.push.result (λ kept.
    ap (λ places. set_value_at entries c.args.index places) kept
    ∙ same_places entries c.args.index c.pair_mut-held.result.1.now known) c.push.ensures.err
