-- Characters that are shown one behind the other.
use Rattle.std.proofs.Common.{◌≡◌, ℕ, List, [], ◌∷◌, ◌++◌, ap, refl, sym, append-nil, append_assoc, ◌∙◌}
use Rattle.js_totsenak.specs.ShownLines.{shown_all_behind, shown_behind}

-- the last of some characters, or the one before them
abbrev pub last_behind : ℕ → List ℕ → ℕ
last_behind before [] = before
last_behind before (c ∷ cs) = last_behind c cs

pub last_of_more : (before : ℕ) (cs : List ℕ) (c : ℕ) → c ≡ last_behind before (cs ++ c ∷ [])
last_of_more before [] c = refl
last_of_more before (d ∷ cs) c = last_of_more d cs c

pub shown_more : (before : ℕ) (cs : List ℕ) (c : ℕ)
    → shown_all_behind before cs ++ shown_behind (last_behind before cs) c
    ≡ shown_all_behind before (cs ++ c ∷ [])
shown_more before [] c = sym (append-nil (shown_behind before c))
shown_more before (d ∷ cs) c =
    append_assoc (shown_behind before d) (shown_all_behind d cs) (shown_behind (last_behind d cs) c)
    ∙ ap (λ shown. shown_behind before d ++ shown) (shown_more d cs c)
