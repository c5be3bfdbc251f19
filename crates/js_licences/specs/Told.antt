-- What is told of licences.
use Rattle.std.specs.Prelude.{ℕ, List, [], ◌∷◌, ◌++◌, chars, codes, flat_map}
use Rattle.std.specs.Fmt.{decimal}
use Rattle.js_totsenak.specs.Json.{json_text}
use Rattle.js_totsenak.specs.ShownLines.{shown_lines}
use Rattle.js_licences.specs.Licences.{LicenceOf}
use Rattle.js_licences.specs.declared.licences.Place.{Place}

-- a place, on a line of its own
abbrev pub place_line : Place → List ℕ
place_line place = place.name ++ (codes ":" ++ decimal place.line ++ codes "\n")

abbrev pub places_lines : List Place → List ℕ
places_lines places = flat_map place_line places

-- a licence: the places where it stands, a line each, then its text, and an empty line
abbrev pub licence_lines : LicenceOf → List ℕ
licence_lines licence = places_lines licence.places ++ shown_lines (chars licence.text) ++ codes "\n\n"

-- the licences, in order
abbrev pub licences_text : List LicenceOf → List ℕ
licences_text licences = flat_map licence_lines licences

-- a place as an object of JSON
abbrev pub place_json : Place → List ℕ
place_json place =
    codes "{\"file\":" ++ json_text (chars place.name) ++ (codes ",\"line\":" ++ decimal place.line ++ codes "}")

-- places as objects of JSON, each behind a comma
abbrev pub further_places : List Place → List ℕ
further_places places = flat_map (λ place. codes "," ++ place_json place) places

-- places as objects of JSON, with commas between them
abbrev pub listed_places : List Place → List ℕ
listed_places [] = []
listed_places (place ∷ places) = place_json place ++ further_places places

-- places as an array of JSON
abbrev pub places_json : List Place → List ℕ
places_json places = codes "[" ++ listed_places places ++ codes "]"

-- a licence as an object of JSON, on a line of its own
abbrev pub licence_json : LicenceOf → List ℕ
licence_json licence =
    codes "{\"text\":" ++ json_text (chars licence.text) ++ codes ",\"places\":" ++ places_json licence.places
    ++ codes "}\n"

-- the licences, in order, as JSON
abbrev pub licences_json : List LicenceOf → List ℕ
licences_json licences = flat_map licence_json licences
