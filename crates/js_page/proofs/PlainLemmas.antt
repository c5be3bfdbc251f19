-- Plain characters are written as they are, and no line ends at them.
use Rattle.std.proofs.Common.{◌≡◌, ℕ, ◌+◌, ◌≤◌, Bool, true, false, not, List, [], ◌∷◌, ◌++◌, ◌∙◌, ap, sym, refl, arith}
use Rattle.std.proofs.Common.{append_assoc, length, length-append}
use Rattle.std.specs.Prelude.{◌&&◌, ◌==◌, bytes_eq, encode_utf8_all, if◌then◌else◌}
use Rattle.std.proofs.lemmas.Bool.{and_parts, and_right, not-true}
use Rattle.std.proofs.lemmas.List.Concat.{flat_map-append}
use Rattle.std.proofs.lemmas.Slice.Eq.{bytes_eq-Decides}
use Rattle.std.proofs.lemmas.Str.{encode_ascii}
use Rattle.js_text.specs.Characters.{from_place}
use Rattle.js_source.specs.Runs.{IsRun, PassesRun, TellsClass}
use Rattle.js_source.specs.Source.{At, SpellsBetween, rest}
use Rattle.js_page.proofs.LineLemmas.{lines_both, pieces_both}
use Rattle.js_page.specs.Characters.{written}
use Rattle.js_page.specs.Lines.{begun, ends_before, ends_behind, is_plain, lines_behind, next_lines}
use Rattle.js_page.specs.Lines.{pieces_at, pieces_in}
use Rattle.js_page.specs.Pieces.{Piece, bytes_of, character, line, piece_bytes}
use Rattle.js_page.specs.declared.lines.Lines.{Lines}

-- what a plain character is
record IsPlain (c : ℕ) : Type 0 where
  itself : written c ≡ c ∷ []
  inside : ends_behind c ≡ false
  no_return : (c == 13) ≡ false

plain_is : (c : ℕ) → is_plain c ≡ true → IsPlain c
unfolding is_plain
plain_is c e =
    let both = and_parts (bytes_eq (written c) (c ∷ [])) (not (ends_behind c) && not (c == 13)) e in
    let ends = and_parts (not (ends_behind c)) (not (c == 13)) both.1 in
    record {
      itself = (bytes_eq-Decides (written c) (c ∷ [])).0 both.0;
      inside = not-true (ends_behind c) ends.0;
      no_return = not-true (c == 13) ends.1;
    }

abbrev lines_of : ℕ → Bool → Lines
lines_of number behind_return = record { number = number; behind_return = behind_return }

-- a line begins before the character, or behind it
abbrev pieces_by : Lines → ℕ → Bool → Bool → List Piece
pieces_by lines c before behind =
    (if before then line (lines.number + 1) ∷ [] else [])
    ++ (character c ∷ (if behind then line (begun lines c + 1) ∷ [] else []))

module _ (lines : Lines) (c : ℕ) (goes_on : lines.behind_return ≡ false) (plain : IsPlain c) where
  none_before : ends_before lines c ≡ false
  none_before = and_right (not (c == 10)) lines.behind_return goes_on

  alone : pieces_at lines c ≡ character c ∷ []
  alone =
      ap (λ b. pieces_by lines c b (ends_behind c)) none_before
      ∙ ap (λ b. pieces_by lines c false b) plain.inside

  same_lines : next_lines lines c ≡ lines
  same_lines =
      ap (λ b. lines_of (if b then begun lines c + 1 else begun lines c) (c == 13)) plain.inside
      ∙ ap (λ b. lines_of (if b then lines.number + 1 else lines.number) (c == 13)) none_before
      ∙ ap (lines_of lines.number) (plain.no_return ∙ sym goes_on)

module _ (table : List Bool) (tells : TellsClass is_plain table) (lines : Lines)
    (goes_on : lines.behind_return ≡ false) where
  lines_stay : (run : List ℕ) → IsRun table run → lines_behind lines run ≡ lines
  lines_stay [] all = refl
  lines_stay (c ∷ cs) all =
      ap (λ (l : Lines). lines_behind l cs)
      (same_lines lines c goes_on (plain_is c (sym (tells.tells c all.0) ∙ all.1)))
      ∙ lines_stay cs all.2

  run_written : (run : List ℕ) → IsRun table run → bytes_of (pieces_in lines run) ≡ run
  run_written [] all = refl
  run_written (c ∷ cs) all =
      let plain : IsPlain c = plain_is c (sym (tells.tells c all.0) ∙ all.1) in
      flat_map-append piece_bytes (pieces_at lines c) (pieces_in (next_lines lines c) cs)
      ∙ ap (λ ps. bytes_of ps ++ bytes_of (pieces_in (next_lines lines c) cs)) (alone lines c goes_on plain)
      ∙ ap (λ (l : Lines). (written c ++ []) ++ bytes_of (pieces_in l cs)) (same_lines lines c goes_on plain)
      ∙ ap (λ bs. (bs ++ []) ++ bytes_of (pieces_in lines cs)) plain.itself
      ∙ ap (λ bs. c ∷ bs) (run_written cs all.2)

  run_encoded : (run : List ℕ) → IsRun table run → encode_utf8_all run ≡ run
  run_encoded [] all = refl
  run_encoded (c ∷ cs) all =
      ap (λ bs. bs ++ encode_utf8_all cs) (encode_ascii c all.0) ∙ ap (λ bs. c ∷ bs) (run_encoded cs all.2)

  -- A run was passed.
  module _ (old new : At) (same : new.text ≡ old.text) (passes : PassesRun table old.text old.place new.place) where
    run_here : rest old ≡ passes.run ++ rest new
    run_here = passes.here ∙ ap (λ t. passes.run ++ from_place t new.place) (sym same)

    pub lines_kept : lines_behind lines (rest new) ≡ lines_behind lines (rest old)
    lines_kept =
        sym (
        ap (lines_behind lines) run_here
        ∙ lines_both lines passes.run (rest new)
        ∙ ap (λ (l : Lines). lines_behind l (rest new)) (lines_stay passes.run passes.all)
        )

    pub fewer_left : length (rest new) ≤ length (rest old)
    fewer_left = omega (arith, ap length run_here, length-append passes.run (rest new))

    pub run_pushed : (start : ℕ) (bytes first second : List ℕ) → start ≡ old.place
        → SpellsBetween new.text start new.place bytes → second ≡ first ++ bytes
        → second ++ bytes_of (pieces_in lines (rest new)) ≡ first ++ bytes_of (pieces_in lines (rest old))
    run_pushed start bytes first second at spells pushed =
        let run = passes.run in
        let behind = bytes_of (pieces_in lines (rest new)) in
        let spelt : bytes ≡ run =
        spells run (ap (λ t. from_place t start) same ∙ ap (from_place old.text) at ∙ run_here)
        ∙ run_encoded run passes.all in
        ap (λ bs. bs ++ behind) (pushed ∙ ap (λ bs. first ++ bs) (spelt ∙ sym (run_written run passes.all)))
        ∙ append_assoc first (bytes_of (pieces_in lines run)) behind
        ∙ ap (λ bs. first ++ bs) (
        ap (λ (l : Lines). bytes_of (pieces_in lines run) ++ bytes_of (pieces_in l (rest new)))
        (sym (lines_stay run passes.all))
        ∙ sym (flat_map-append piece_bytes (pieces_in lines run) (pieces_in (lines_behind lines run) (rest new)))
        ∙ ap bytes_of (sym (pieces_both lines run (rest new)) ∙ ap (pieces_in lines) (sym run_here))
        )
