-- Licences to which comments are added one by one have each text once.
use Rattle.std.proofs.Common.{◌≡◌, ℕ, zero, suc, ◌≤◌, Bool, true, false, List, [], ◌∷◌, ◌++◌, length, refl, sym, ap}
use Rattle.std.proofs.Common.{append-nil, append_assoc, arith, subst, ◌∙◌}
use Rattle.std.specs.Prelude.{bytes_eq}
use Rattle.js_licences.specs.Licences.{AreLicencesOf, LicenceOf, Occurrence, places_of, with_occurrence, with_occurrences}
use Rattle.js_licences.specs.Licences.{without_text}

-- a licence with more places
abbrev with_places : LicenceOf → List Occurrence → LicenceOf
with_places licence xs = record licence { places = licence.places ++ places_of licence.text xs }

-- the first licence takes the places of its text, and the others the comments with other texts
first_takes : (licence : LicenceOf) (licences : List LicenceOf) (xs : List Occurrence)
    → with_occurrences (licence ∷ licences) xs
    ≡ with_places licence xs ∷ with_occurrences licences (without_text licence.text xs)
first_takes licence licences [] =
    ap (λ places. record licence { places = places } ∷ licences) (sym (append-nil licence.places))
first_takes licence licences (x ∷ xs) =
    by_test (bytes_eq x.text licence.text) refl
    (first_takes (record licence { places = licence.places ++ x.place ∷ [] }) licences xs)
    (first_takes licence (with_occurrence licences x) xs)
  where
    by_test : (b : Bool) → bytes_eq x.text licence.text ≡ b
        → with_occurrences (record licence { places = licence.places ++ x.place ∷ [] } ∷ licences) xs
        ≡ with_places (record licence { places = licence.places ++ x.place ∷ [] }) xs
        ∷ with_occurrences licences (without_text licence.text xs)
        → with_occurrences (licence ∷ with_occurrence licences x) xs
        ≡ with_places licence xs ∷ with_occurrences (with_occurrence licences x) (without_text licence.text xs)
        → with_occurrences (licence ∷ licences) (x ∷ xs)
        ≡ with_places licence (x ∷ xs) ∷ with_occurrences licences (without_text licence.text (x ∷ xs))
    by_test true e known new =
        let joined = append_assoc licence.places (x.place ∷ []) (places_of licence.text xs) in
        rw e (
        known
        ∙ ap (λ places. record licence { places = places }
        ∷ with_occurrences licences (without_text licence.text xs)) joined
        )
    by_test false e known new = rw e new

fewer : (text : List ℕ) (xs : List Occurrence) → length (without_text text xs) ≤ length xs
fewer text [] = omega arith
fewer text (x ∷ xs) = by_test (bytes_eq x.text text) refl (fewer text xs)
  where
    by_test : (b : Bool) → bytes_eq x.text text ≡ b → length (without_text text xs) ≤ length xs
        → length (without_text text (x ∷ xs)) ≤ length (x ∷ xs)
    by_test true e less = rw e (omega (arith, less))
    by_test false e less = rw e (omega (arith, less))

-- by a bound on how many comments there are
once_within : (n : ℕ) (xs : List Occurrence) → length xs ≤ n → AreLicencesOf xs (with_occurrences [] xs)
once_within n [] few = refl
once_within zero (x ∷ xs) few = absurd (omega (arith, few))
once_within (suc n) (x ∷ xs) few =
    let first : LicenceOf = record { text = x.text; places = x.place ∷ [] } in
    let less = fewer x.text xs in
    let later = once_within n (without_text x.text xs) (omega (arith, few, less)) in
    subst (AreLicencesOf (x ∷ xs)) (sym (first_takes first [] xs)) (refl, refl, later)

pub once : (xs : List Occurrence) → AreLicencesOf xs (with_occurrences [] xs)
once xs = once_within (length xs) xs (omega arith)
