-- What stands on a line.
use Rattle.std.specs.Prelude.{◌≡◌, ℕ, List, [], ◌∷◌, ◌++◌, ◌⊎◌}
use Rattle.js_text.specs.Ascii.{carriage_return}

-- The characters ys are the characters xs without a CR at their end, or xs where none is there.
abbrev pub IsWithoutReturn : List ℕ → List ℕ → Type 0
IsWithoutReturn xs ys =
    (xs ≡ ys ++ carriage_return ∷ [])
    ⊎ ((xs ≡ ys) × ((us : List ℕ) → xs ≡ us ++ carriage_return ∷ [] → ⊥))
