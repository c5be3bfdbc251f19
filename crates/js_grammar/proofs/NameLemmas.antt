-- The longest name of a text.
use Rattle.std.proofs.Common.{◌≡◌, ℕ, Bool, true, false, not, cond, List, [], ◌∷◌, refl}
use Rattle.js_text.specs.Characters.{is_identifier_part, begins, from_first}
use Rattle.js_grammar.specs.Name.{is_no_part}

pub parts_end : (cs : List ℕ) → begins is_identifier_part (from_first is_no_part cs) ≡ false
parts_end [] = refl
parts_end (c ∷ cs) =
    let ih = parts_end cs in
    let family : Bool → Type 0 = λ b. is_identifier_part c ≡ b
    → begins is_identifier_part (cond (not b) (c ∷ cs) (from_first is_no_part cs)) ≡ false in
    elim (is_identifier_part c) as family [ true ↦ λ e. ih | false ↦ λ e. e ] refl
