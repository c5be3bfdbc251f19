use Rattle.std.proofs.Common.{◌∙◌, ◌≡◌, ◌++◌, ◌∷◌, [], ap, sym, subst, string_bytes, String, Global, List, ℕ}
use Rattle.js_licences.specs.Licences.{licences_in}
use Rattle.js_licences.proofs.Collected.{IsNew, insert_new, licences_push, new_from_position}
use Rattle.js_licences.proofs.licences.add_text.Goals as goal

abbrev bytes : String Global → List ℕ
bytes s = string_bytes s

pub returns-clause-ok : goal.returns-clause-ok
returns-clause-ok c =
    let entries = c.args.places.now.entries in
    let text = c.args.text.now in
    let key = c.in_ok-key.key in
    let places = c.push.new.self in
    let key_is : bytes key ≡ text = c.in_ok-key.ensures.ok in
    let places_are : places ≡ c.args.place ∷ [] =
    c.in_ok-push.ensures.ok ∙ ap (λ held. held ++ c.args.place ∷ []) c.new_in-held.ensures in
    let new = new_from_position bytes text entries c.requires in
    let inserted = insert_new bytes entries key places (subst (λ t. IsNew bytes t entries) (sym key_is) new) in
    ap (licences_in bytes) (c.in_ok-insert.ensures.entries ∙ inserted)
    ∙ licences_push bytes entries key places
    ∙ ap (λ t. licences_in bytes entries ++ record { text = t; places = places } ∷ []) key_is
    ∙ ap (λ ps. licences_in bytes entries ++ record { text = text; places = ps } ∷ []) places_are
