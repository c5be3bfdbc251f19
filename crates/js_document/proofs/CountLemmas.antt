-- How many items of each list rows found.
use Rattle.std.proofs.Common.{◌≡◌, ℕ, ◌+◌, ◌<◌, List, [], ◌∷◌, ◌++◌, length, map, take, refl, sym, ◌∙◌, ap, arith}
use Rattle.std.proofs.Common.{append_assoc, append-nil, get_or, length-append}
use Rattle.std.specs.List.{flat_map}
use Rattle.std.proofs.lemmas.List.{length-map}
use Rattle.std.proofs.lemmas.List.Concat.{flat_map-append}
use Rattle.js_session.specs.declared.row.Row.{Row}
use Rattle.js_session.specs.Shifted.{shifted_comment, shifted_diagnostic, shifted_row, shifted_span}
use Rattle.js_document.specs.declared.counts.FoundCounts.{FoundCounts}
use Rattle.js_document.specs.declared.gap.Entry.{Entry}
use Rattle.js_document.specs.Found.{counts_and, counts_in, counts_with, found_by}
use Rattle.js_document.specs.Gap.{rows_of, shifted_entry}
use Rattle.js_document.proofs.EntryLoops.{rows_up_to}

module _ {A : Type 0} (items : Row → List A) where
  both : (xs ys : List Row)
      → length (flat_map items (xs ++ ys)) ≡ length (flat_map items xs) + length (flat_map items ys)
  both xs ys =
      ap (λ l. length l) (flat_map-append items xs ys) ∙ length-append (flat_map items xs) (flat_map items ys)

  one_more : (rows : List Row) (row : Row)
      → length (flat_map items (rows ++ row ∷ [])) ≡ length (flat_map items rows) + length (items row)
  one_more rows row =
      both rows (row ∷ []) ∙ ap (λ l. length (flat_map items rows) + length l) (append-nil (items row))

-- with one row more
pub counts_more : (rows : List Row) (row : Row)
    → counts_in (found_by (rows ++ row ∷ [])) ≡ counts_with (counts_in (found_by rows)) row
counts_more rows row = λ j. record {
  diagnostics = one_more (λ (r : Row). r.diagnostics) rows row j;
  deferred = one_more (λ (r : Row). r.deferred) rows row j;
  comments = one_more (λ (r : Row). r.comments) rows row j;
  irregular = one_more (λ (r : Row). r.irregular) rows row j;
  warnings = one_more (λ (r : Row). r.warnings) rows row j;
}

-- rows that are put together have as many as both
pub counts_both : (xs ys : List Row)
    → counts_in (found_by (xs ++ ys)) ≡ counts_and (counts_in (found_by xs)) (counts_in (found_by ys))
counts_both xs ys = λ j. record {
  diagnostics = both (λ (r : Row). r.diagnostics) xs ys j;
  deferred = both (λ (r : Row). r.deferred) xs ys j;
  comments = both (λ (r : Row). r.comments) xs ys j;
  irregular = both (λ (r : Row). r.irregular) xs ys j;
  warnings = both (λ (r : Row). r.warnings) xs ys j;
}

module _ {K : Type 0} where
  -- rows that are moved have as many
  module _ {A : Type 0} (items : Row → List A) (from to : ℕ) (moved : A → A)
      (law : (row : Row) → items (shifted_row from to row) ≡ map moved (items row)) where
    found_moved : (es : List (Entry K))
        → length (flat_map items (rows_of {K = K} (map (shifted_entry {K = K} from to) es)))
        ≡ length (flat_map items (rows_of {K = K} es))
    found_moved [] = refl
    found_moved (e ∷ es) =
        let one = ap (λ l. length l) (law e.row) ∙ length-map (items e.row) moved in
        let more = found_moved es in
        let first = length-append (items (shifted_row from to e.row))
        (flat_map items (rows_of {K = K} (map (shifted_entry {K = K} from to) es))) in
        let second = length-append (items e.row) (flat_map items (rows_of {K = K} es)) in
        omega (arith, one, more, first, second)

  pub counts_moved : (from to : ℕ) (es : List (Entry K))
      → counts_in (found_by (rows_of {K = K} (map (shifted_entry {K = K} from to) es)))
      ≡ counts_in (found_by (rows_of {K = K} es))
  counts_moved from to es = λ j. record {
    diagnostics = found_moved (λ (r : Row). r.diagnostics) from to (shifted_diagnostic from to) (λ r. refl) es j;
    deferred = found_moved (λ (r : Row). r.deferred) from to (shifted_diagnostic from to) (λ r. refl) es j;
    comments = found_moved (λ (r : Row). r.comments) from to (shifted_comment from to) (λ r. refl) es j;
    irregular = found_moved (λ (r : Row). r.irregular) from to (shifted_span from to) (λ r. refl) es j;
    warnings = found_moved (λ (r : Row). r.warnings) from to (shifted_span from to) (λ r. refl) es j;
  }

  -- Those of one row more are counted.
  pub counts_up_to : (front : List Row) (es : List (Entry K)) (index : ℕ) (e : Entry K) (now later : FoundCounts)
      → index < length es → e ≡ get_or es index e
      → now ≡ counts_in (found_by (front ++ rows_of {K = K} (take index es))) → later ≡ counts_with now e.row
      → later ≡ counts_in (found_by (front ++ rows_of {K = K} (take (index + 1) es)))
  counts_up_to front es index e now later some is so_far more =
      let before = rows_of {K = K} (take index es) in
      more ∙ ap (λ c. counts_with c e.row) so_far ∙ sym (counts_more (front ++ before) e.row)
      ∙ ap (λ rs. counts_in (found_by rs)) (append_assoc front before (e.row ∷ []))
      ∙ ap (λ rs. counts_in (found_by (front ++ rs))) (sym (rows_up_to {K = K} es index e some is))
