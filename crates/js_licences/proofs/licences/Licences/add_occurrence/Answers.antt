use Rattle.std.proofs.Common.{◌∙◌, ap, sym, string_bytes, String, Global, List, ℕ}
use Rattle.js_licences.specs.Licences.{Occurrence, licences_in, with_occurrence}
use Rattle.js_licences.proofs.Collected.{first_from_position, first_held, new_from_position, on_ok, with_known, with_new}
use Rattle.js_licences.proofs.licences.Licences.add_occurrence.Goals as goal

abbrev bytes : String Global → List ℕ
bytes s = string_bytes s

pub returns-in-Some-clause-ok : goal.returns-in-Some-clause-ok
returns-in-Some-clause-ok c =
    let entries = c.self.inside.places.entries in
    let text = c.args.text.now in
    let x : Occurrence = record { text = text; place = c.args.place } in
    let at =
    first_from_position bytes text entries c.in-Some.index (sym c.get_index_of.ensures.index ∙ c.in-Some.is) in
    let held = first_held bytes text entries c.in-Some.index at in
    on_ok c.add_place.result (λ added.
    ap (licences_in bytes) (added held.0 held.1)
    ∙ sym (with_known bytes text entries c.in-Some.index c.args.place held.0 at held.1)
    ∙ ap (λ licences. with_occurrence licences x) c.self.view_is) c.add_place.ensures.ok

pub returns-in-None-clause-ok : goal.returns-in-None-clause-ok
returns-in-None-clause-ok c =
    let entries = c.self.inside.places.entries in
    let text = c.args.text.now in
    let x : Occurrence = record { text = text; place = c.args.place } in
    let new = new_from_position bytes text entries (sym c.get_index_of.ensures.index ∙ c.in-None.is) in
    on_ok c.add_text.result (λ added.
    added
    ∙ sym (with_new bytes text entries c.args.place new)
    ∙ ap (λ licences. with_occurrence licences x) c.self.view_is) c.add_text.ensures.ok
