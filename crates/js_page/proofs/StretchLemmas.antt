-- Up to a place that is not behind where the writing is, nothing is written.
use Rattle.std.proofs.Common.{◌≡◌, ℕ, ◌-◌, ◌≤◌, List, [], ◌∷◌, ◌++◌, ◌∙◌, ap, sym, arith, append-nil}
use Rattle.std.specs.Prelude.{max}
use Rattle.js_lines.proofs.ColumnLemmas.{IsTooLong, front_stops, width_bounds}
use Rattle.js_lines.specs.Columns.{behind_front}
use Rattle.js_lines.specs.declared.columns.ColumnUnit.TheVariants.{Bytes}
use Rattle.js_page.specs.Lines.{lines_behind, pieces_in}
use Rattle.js_page.specs.Parts.{Here, behind_stretch, plain_to, stretch_to}
use Rattle.js_page.specs.Pieces.{bytes_of}
use Rattle.js_page.specs.declared.lines.Lines.{Lines}

too_long : (cs : List ℕ) → IsTooLong Bytes 0 cs
too_long [] = tt
too_long (c ∷ cs) = let some = (width_bounds Bytes c).0 in omega arith

abbrev moved : Here → Lines → List ℕ → ℕ → Here
moved here lines left place = record here { lines = lines; left = left; place = place }

module _ (to : ℕ) (here : Here) (behind : to ≤ here.place) where
  none_between : (stretch_to to here ≡ []) × (behind_front Bytes (to - here.place) here.left ≡ here.left)
  none_between =
      let none : to - here.place ≡ 0 = omega arith in
      rw none (front_stops Bytes 0 here.left (too_long here.left))

  pub none_written : (first : List ℕ) → first ≡ first ++ bytes_of (plain_to to here)
  none_written first =
      sym (append-nil first) ∙ ap (λ cs. first ++ bytes_of (pieces_in here.lines cs)) (sym none_between.0)

  pub stays_here : here ≡ behind_stretch to here
  stays_here =
      let same : max here.place to ≡ here.place = omega arith in
      let left = behind_front Bytes (to - here.place) here.left in
      sym (
      ap (λ cs. moved here (lines_behind here.lines cs) left (max here.place to)) none_between.0
      ∙ ap (λ cs. moved here here.lines cs (max here.place to)) none_between.1
      ∙ ap (moved here here.lines here.left) same
      )
