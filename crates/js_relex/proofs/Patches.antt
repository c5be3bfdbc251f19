-- What is live behind an edit where nothing moves, as a patch of what was live.
use Rattle.std.proofs.Common.{◌≡◌, ℕ, zero, suc, ◌+◌, ◌-◌, ◌<◌, ◌≤◌, List, [], ◌∷◌, ◌++◌, length, map, take, drop, sym}
use Rattle.std.proofs.Common.{◌∙◌, ap, subst, arith, append_assoc}
use Rattle.std.specs.List.{AllByRecursion}
use Rattle.std.proofs.lemmas.List.{drop-map, length-drop, length-map, map-append, take-map}
use Rattle.js_session.specs.declared.report.Report.{Report}
use Rattle.js_session.specs.declared.row.Row.{Row}
use Rattle.js_session.specs.Live.{nothing_live, report_live, report_with}
use Rattle.js_relex.specs.Documents.{live_behind}
use Rattle.js_relex.specs.LiveLists.{AreWithin, IsPatch, Lasts, StartsAnew, joined_live, lengths_past, live_from}
use Rattle.js_relex.specs.LiveLists.{live_lengths, live_up_to}
use Rattle.js_relex.specs.Outlines.{outline_of}
use Rattle.js_relex.specs.declared.live.LiveLengths.{LiveLengths}
use Rattle.js_relex.specs.declared.outline.RowOutline.{RowOutline}
use Rattle.js_relex.proofs.LiveInPlace.{all_both, all_dropped, all_taken}
use Rattle.js_relex.proofs.LiveLists.{starts_anew, take_further}
use Rattle.js_relex.proofs.LiveParts.{between, from_place, up_to_place, within_report}
use Rattle.js_relex.proofs.LiveRows.{live-append}

-- the front of rows that start anew starts anew
anew_front : (xs ys : List Row) (n : ℕ) → StartsAnew xs → 0 < n → 0 < length xs → StartsAnew (take n xs ++ ys)
anew_front xs ys zero anew some full = absurd (omega (arith, some))
anew_front [] ys (suc n) anew some full = absurd (omega (arith, full))
anew_front (x ∷ xs) ys (suc n) anew some full = anew

-- What the rows from the start up to the last that is kept, those that were read, and those from the place up to the next
-- that start anew make live is a patch of what was live.
pub patch_live : (old : Report) (lasted : AllByRecursion Lasts old.rows)
    (live : report_live old ≡ live_behind nothing_live old.rows) (start last place next : ℕ) (before end : LiveLengths)
    (read : List Row) (middle : Report) (rows : List Row) → rows ≡ old.rows
    → before ≡ live_lengths (live_behind nothing_live (take start old.rows))
    → end ≡ live_lengths (live_behind nothing_live (take next old.rows))
    → StartsAnew (drop start rows) → StartsAnew (drop next rows) → start ≤ last → last + 1 ≤ place → place ≤ next
    → next ≤ length rows → AllByRecursion Lasts read → lengths_past before (report_live middle) ≡ end
    → middle ≡ report_with [] [] (live_behind nothing_live (take (last + 1 - start) (drop start rows) ++ read
    ++ take (next - place) (drop place rows)))
    → IsPatch (report_live old) before (report_live middle) (take (last + 1) old.rows ++ read ++ drop place old.rows)
patch_live old lasted live start last place next before end read middle rows rows_are before_is end_is anew_start
    anew_next ordered inside behind within lasts fills middle_is =
    let front = take start old.rows in
    let first = take (last + 1 - start) (drop start old.rows) in
    let more = take (next - place) (drop place old.rows) in
    let mid = first ++ read ++ more in
    let tail = drop next old.rows in
    let starts : StartsAnew (drop start old.rows) = subst (λ rs. StartsAnew (drop start rs)) rows_are anew_start in
    let ends : StartsAnew tail = subst (λ rs. StartsAnew (drop next rs)) rows_are anew_next in
    let count = ap length rows_are in
    let dropped = length-drop start old.rows in
    let mid_anew : StartsAnew mid =
    subst StartsAnew (sym (append_assoc first read more))
    (anew_front (drop start old.rows) (read ++ more) (last + 1 - start) starts (omega (arith, ordered))
    (omega (arith, ordered, inside, behind, within, count, dropped))) in
    let mid_lasted : AllByRecursion Lasts mid =
    all_both Lasts (first ++ read) more
    (all_both Lasts first read
    (all_taken Lasts (last + 1 - start) (drop start old.rows) (all_dropped Lasts start old.rows lasted)) lasts)
    (all_taken Lasts (next - place) (drop place old.rows) (all_dropped Lasts place old.rows lasted)) in
    let middle_live : report_live middle ≡ live_behind nothing_live mid =
    ap report_live middle_is
    ∙ ap (λ rs. live_behind nothing_live (take (last + 1 - start) (drop start rs) ++ read
    ++ take (next - place) (drop place rs))) rows_are in
    let up : live_up_to before (report_live old) ≡ live_behind nothing_live front =
    up_to_place old lasted live start before before_is starts in
    let rest : live_from end (report_live old) ≡ live_behind nothing_live tail =
    from_place old lasted live next end end_is ends in
    let one : start ≤ last + 1 = omega (arith, ordered) in
    let whole : front ++ mid ++ tail ≡ take (last + 1) old.rows ++ read ++ drop place old.rows =
    ap (λ xs. xs ++ tail)
    (sym (append_assoc front (first ++ read) more) ∙ ap (λ xs. xs ++ more) (sym (append_assoc front first read)))
    ∙ append_assoc (front ++ first ++ read) more tail
    ∙ (λ i. take_further old.rows start (last + 1) one i ++ read ++ between old.rows place next behind i) in
    record {
      inside =
          subst (λ l. AreWithin l (live_lengths (report_live old))) (sym fills)
          (within_report old lasted live next end end_is);
      live =
          (λ i. joined_live (joined_live (up i) (middle_live i)) (live_from (fills i) (report_live old)))
          ∙ ap (joined_live (joined_live (live_behind nothing_live front) (live_behind nothing_live mid))) rest
          ∙ ap (λ l. joined_live l (live_behind nothing_live tail))
          (sym (starts_anew (live_behind nothing_live front) mid mid_lasted mid_anew)
          ∙ sym (live-append nothing_live front mid))
          ∙ sym
          (starts_anew (live_behind nothing_live (front ++ mid)) tail (all_dropped Lasts next old.rows lasted) ends)
          ∙ sym (live-append nothing_live (front ++ mid) tail)
          ∙ ap (live_behind nothing_live) whole;
    }

-- The outlines of rows in which some were put in the place of as many.
pub outlines_overwritten : (kept behind : ℕ) (rows read new : List Row) (olds more outlines : List RowOutline)
    → kept + length read + behind ≡ length rows → olds ≡ map outline_of rows → more ≡ map outline_of read
    → outlines ≡ take kept olds ++ more ++ drop (kept + length more) olds
    → new ≡ take kept rows ++ read ++ drop (length rows - behind) rows
    → outlines ≡ map outline_of new
outlines_overwritten kept behind rows read new olds more outlines as_many olds_are more_are outlines_are new_is =
    let f = outline_of in
    let there : kept + length read ≡ length rows - behind = omega (arith, as_many) in
    let rest = drop (length rows - behind) rows in
    outlines_are
    ∙ (λ i. take kept (olds_are i) ++ more_are i ++ drop (kept + length (more_are i)) (olds_are i))
    ∙ (λ i. take-map f kept rows i ++ map f read ++ drop (kept + length-map read f i) (map f rows))
    ∙ (λ i. map f (take kept rows) ++ map f read ++ drop (there i) (map f rows))
    ∙ ap (λ xs. map f (take kept rows) ++ map f read ++ xs) (drop-map f (length rows - behind) rows)
    ∙ ap (λ xs. xs ++ map f rest) (sym (map-append f (take kept rows) read))
    ∙ sym (map-append f (take kept rows ++ read) rest)
    ∙ ap (map f) (sym new_is)
