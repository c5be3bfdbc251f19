-- Faults in a part, one more.
use Rattle.std.proofs.Common.{◌≡◌, ℕ, ◌+◌, ◌<◌, List, [], ◌∷◌, ◌++◌, ◌∙◌, ap, sym, append-nil, append_assoc, refl}
use Rattle.std.proofs.Common.{get_or, length, take}
use Rattle.std.proofs.lemmas.List.{take_more}
use Rattle.std.proofs.lemmas.List.Concat.{flat_map-append}
use Rattle.js_page.specs.Parts.{Here, behind_fault, behind_faults, fault_pieces, faults_pieces}
use Rattle.js_page.specs.Pieces.{bytes_of, piece_bytes}
use Rattle.js_page.specs.declared.writing.Fault.{Fault}

pub behind_more : (to : ℕ) (fs : List Fault) (f : Fault) (here : Here)
    → behind_faults to (fs ++ f ∷ []) here ≡ behind_fault to f (behind_faults to fs here)
behind_more to [] f here = refl
behind_more to (g ∷ fs) f here = behind_more to fs f (behind_fault to g here)

pub pieces_more : (to : ℕ) (fs : List Fault) (f : Fault) (here : Here)
    → faults_pieces to (fs ++ f ∷ []) here
    ≡ faults_pieces to fs here ++ fault_pieces to f (behind_faults to fs here)
pieces_more to [] f here = append-nil (fault_pieces to f here)
pieces_more to (g ∷ fs) f here =
    ap (λ ps. fault_pieces to g here ++ ps) (pieces_more to fs f (behind_fault to g here))
    ∙ sym (append_assoc (fault_pieces to g here) (faults_pieces to fs (behind_fault to g here))
    (fault_pieces to f (behind_faults to fs (behind_fault to g here))))

-- one more fault was written
pub steps_more : (to : ℕ) (fs : List Fault) (i : ℕ) (f : Fault) (start mid next : Here) (first second third : List ℕ)
    → i < length fs → f ≡ get_or fs i f → second ≡ first ++ bytes_of (faults_pieces to (take i fs) start)
    → mid ≡ behind_faults to (take i fs) start → third ≡ second ++ bytes_of (fault_pieces to f mid)
    → next ≡ behind_fault to f mid
    → (third ≡ first ++ bytes_of (faults_pieces to (take (i + 1) fs) start))
    × (next ≡ behind_faults to (take (i + 1) fs) start)
steps_more to fs i f start mid next first second third within is written place text there =
    let taken : take (i + 1) fs ≡ take i fs ++ f ∷ [] =
    take_more fs i f within ∙ ap (λ (g : Fault). take i fs ++ g ∷ []) (sym is) in
    let before : List ℕ = bytes_of (faults_pieces to (take i fs) start) in
    let behind : Here = behind_faults to (take i fs) start in (
      text
          ∙ ap (λ bytes. bytes ++ bytes_of (fault_pieces to f mid)) written
          ∙ ap (λ (h : Here). (first ++ before) ++ bytes_of (fault_pieces to f h)) place
          ∙ append_assoc first before (bytes_of (fault_pieces to f behind))
          ∙ ap (λ bytes. first ++ bytes) (
          sym (flat_map-append piece_bytes (faults_pieces to (take i fs) start) (fault_pieces to f behind))
          ∙ ap bytes_of (sym (pieces_more to (take i fs) f start))
          )
          ∙ ap (λ (gs : List Fault). first ++ bytes_of (faults_pieces to gs start)) (sym taken),
      there
          ∙ ap (behind_fault to f) place
          ∙ sym (behind_more to (take i fs) f start)
          ∙ ap (λ (gs : List Fault). behind_faults to gs start) (sym taken),
    )
