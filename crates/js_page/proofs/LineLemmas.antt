-- Characters with the anchors of lines, one behind the other.
use Rattle.std.proofs.Common.{◌≡◌, ℕ, List, [], ◌∷◌, ◌++◌, ◌∙◌, ap, sym, append-nil, append_assoc, refl}
use Rattle.std.proofs.lemmas.List.Concat.{flat_map-append}
use Rattle.js_page.specs.Lines.{lines_behind, next_lines, pieces_at, pieces_in}
use Rattle.js_page.specs.Pieces.{bytes_of, piece_bytes}
use Rattle.js_page.specs.declared.lines.Lines.{Lines}

-- characters behind others
pub lines_both : (lines : Lines) (xs ys : List ℕ)
    → lines_behind lines (xs ++ ys) ≡ lines_behind (lines_behind lines xs) ys
lines_both lines [] ys = refl
lines_both lines (c ∷ xs) ys = lines_both (next_lines lines c) xs ys

pub pieces_both : (lines : Lines) (xs ys : List ℕ)
    → pieces_in lines (xs ++ ys) ≡ pieces_in lines xs ++ pieces_in (lines_behind lines xs) ys
pieces_both lines [] ys = refl
pieces_both lines (c ∷ xs) ys =
    ap (λ ps. pieces_at lines c ++ ps) (pieces_both (next_lines lines c) xs ys)
    ∙ sym (append_assoc (pieces_at lines c) (pieces_in (next_lines lines c) xs)
    (pieces_in (lines_behind (next_lines lines c) xs) ys))

-- one character more
pub lines_more : (lines : Lines) (cs : List ℕ) (c : ℕ)
    → lines_behind lines (cs ++ c ∷ []) ≡ next_lines (lines_behind lines cs) c
lines_more lines cs c = lines_both lines cs (c ∷ [])

pub pieces_more : (lines : Lines) (cs : List ℕ) (c : ℕ)
    → pieces_in lines (cs ++ c ∷ []) ≡ pieces_in lines cs ++ pieces_at (lines_behind lines cs) c
pieces_more lines cs c =
    pieces_both lines cs (c ∷ []) ∙ ap (λ ps. pieces_in lines cs ++ ps) (append-nil (pieces_at (lines_behind lines cs) c))

-- The next of the characters was written: with what is written of those behind it, it is as it was before.
pub written_on : (old new : Lines) (c : ℕ) (cs ds first second : List ℕ) → ds ≡ c ∷ cs → new ≡ next_lines old c
    → second ≡ first ++ bytes_of (pieces_at old c)
    → second ++ bytes_of (pieces_in new cs) ≡ first ++ bytes_of (pieces_in old ds)
written_on old new c cs ds first second here next pushed =
    ap (λ bs. bs ++ bytes_of (pieces_in new cs)) pushed
    ∙ append_assoc first (bytes_of (pieces_at old c)) (bytes_of (pieces_in new cs))
    ∙ ap (λ bs. first ++ bs) (
    ap (λ (l : Lines). bytes_of (pieces_at old c) ++ bytes_of (pieces_in l cs)) next
    ∙ sym (flat_map-append piece_bytes (pieces_at old c) (pieces_in (next_lines old c) cs))
    ∙ ap (λ es. bytes_of (pieces_in old es)) (sym here)
    )
