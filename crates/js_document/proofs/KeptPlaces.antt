-- Each place of a row that is kept stands before the edit, since the row is one of the text up to there.
use Rattle.std.proofs.Common.{◌≡◌, ℕ, ◌+◌, ◌≤◌, List, [], ◌∷◌, ◌++◌, length, take, drop, refl, sym, ◌∙◌, ap, subst, arith}
use Rattle.std.proofs.Common.{append-nil, length-append, None}
use Rattle.std.specs.List.{AllByRecursion}
use Rattle.std.specs.Str.{IsCharBoundary, IsUtf8}
use Rattle.std.proofs.lemmas.List.{length-take-le, take-append-drop, take_at}
use Rattle.std.proofs.lemmas.Str.{IsUtf8-take}
use Rattle.js_text.specs.declared.source_type.SourceType.{SourceType}
use Rattle.js_session.specs.declared.row.Row.{Row}
use Rattle.js_session.specs.Live.{nothing_live, state_after_first}
use Rattle.js_session.specs.Report.{AreRows, IsRow, Run}
use Rattle.js_session.specs.Shifted.{OfEachPlace}
use Rattle.js_session.proofs.LastingRuns.{all_steps}
use Rattle.js_session.proofs.LocalRows.{row_local}
use Rattle.js_session.proofs.LocalRuns.{run_local}
use Rattle.js_session.proofs.RowsWithin.{rows_within}
use Rattle.js_choose.specs.Rules.{IsRule, Rule}
use Rattle.js_relex.proofs.KeptRows.{take_lasting}
use Rattle.js_document.proofs.EditedRows.{AreChosenRows, chosen_lasts, cuts}
use Rattle.js_document.proofs.KeptLemmas.{Before}

pub kept_within : (rule : Rule) → IsRule rule → (text : List ℕ) (t : SourceType) (start : ℕ) → IsUtf8 text
    → IsCharBoundary text start → (all rows more : List Row) → AreChosenRows rule text t all → all ≡ rows ++ more
    → AllByRecursion (Before start) rows → AllByRecursion (OfEachPlace (λ place. place ≤ start)) rows
kept_within rule law text t start u boundary all [] more a are near = tt
kept_within rule law text t start u boundary all (row ∷ rows) more a are near =
    let same : row ∷ (rows ++ more) ≡ a.first ∷ a.behind = sym are ∙ a.rows_are in
    let head : row ∷ [] ≡ a.first ∷ [] = ap (λ l. take 1 l) same in
    let tail : rows ++ more ≡ a.behind = ap (λ l. drop 1 l) same in
    let count = length rows in
    let taken : take count a.behind ≡ rows = ap (take count) (sym tail) ∙ take_at rows more count refl in
    let long : length a.behind ≡ count + length more = ap (λ l. length l) (sym tail) ∙ length-append rows more in
    let rows_are : row ∷ rows ≡ a.first ∷ take count a.behind =
    ap (λ l. l ++ rows) head ∙ ap (λ l. a.first ∷ l) (sym taken) in
    let front = take start text in
    let rest = drop start text in
    let whole : front ++ rest ≡ text = take-append-drop start text in
    let alone : front ++ [] ≡ front = append-nil front in
    let size : length front ≡ start = length-take-le start text boundary.0 in
    let utf8 : IsUtf8 (front ++ rest) = subst IsUtf8 (sym whole) u in
    let utf8_front : IsUtf8 front = IsUtf8-take text start u boundary in
    let utf8_alone : IsUtf8 (front ++ []) = subst IsUtf8 (sym alone) utf8_front in
    let s = state_after_first a.first in
    let lasting = chosen_lasts rule law text s a.commands a.behind a.chosen in
    let steps = all_steps (take count a.commands) (take_lasting count a.commands lasting) in
    let near_all : AllByRecursion (Before (length front)) (a.first ∷ take count a.behind) =
    subst (λ n. AllByRecursion (Before n) (a.first ∷ take count a.behind)) (sym size)
    (subst (AllByRecursion (Before start)) rows_are near) in
    let first = subst (λ x. IsRow x t nothing_live None a.first) (sym whole) a.is_first in
    let cut = (cuts rule text t s a.commands a.behind count (omega (arith, long)) lasting a.run a.chosen).run in
    let first_alone = row_local front rest [] t nothing_live None a.first utf8 utf8_alone tt near_all.0 first in
    let run_alone = run_local front rest [] t s (take count a.commands) (take count a.behind) utf8 utf8_alone
    first.places.token steps near_all.1
    (subst (λ x. Run x t s (take count a.commands) (take count a.behind)) (sym whole) cut) in
    let are_rows : AreRows front t (take count a.commands) (a.first ∷ take count a.behind) =
    subst (λ x. AreRows x t (take count a.commands) (a.first ∷ take count a.behind)) alone (first_alone, run_alone) in
    subst (λ n. AllByRecursion (OfEachPlace (λ place. place ≤ n)) (row ∷ rows)) size
    (subst (AllByRecursion (OfEachPlace (λ place. place ≤ length front))) (sym rows_are)
    (rows_within front t (take count a.commands) (a.first ∷ take count a.behind) utf8_front steps are_rows))
