use Rattle.std.proofs.Common.{◌∙◌, ◌≡◌, ◌+◌, ◌++◌, ap, sym, arith, suc, take}
use Rattle.std.specs.List.{flat_map}
use Rattle.js_licences.specs.Licences.{licence_seen}
use Rattle.js_licences.specs.Told.{licence_json}
use Rattle.js_licences.proofs.Collected.{one_text_more}
use Rattle.js_licences.proofs.told.licences_json.Goals as goal

pub loop-index-preserved : goal.loop-index-preserved
loop-index-preserved c =
    let next : c.loop-index.index + 1 ≡ suc c.loop-index.index = omega arith in
    c.in_ok-push_licence_json.ensures
    ∙ ap (λ bytes. bytes ++ licence_json (licence_seen c.licence.result)) c.loop-index.invariant
    ∙ sym (one_text_more licence_json c.args.licences.now c.loop-index.index (licence_seen c.licence.result) c.licence.ensures)
    ∙ ap (λ n. flat_map licence_json (take n c.args.licences.now)) (sym next)
