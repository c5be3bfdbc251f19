-- The live lists of a report, cut where rows start anew.
use Rattle.std.proofs.Common.{◌≡◌, ℕ, ◌+◌, ◌-◌, ◌<◌, ◌≤◌, List, [], ◌∷◌, ◌++◌, length, map, take, drop, sym}
use Rattle.std.proofs.Common.{◌∙◌, ap, subst, arith}
use Rattle.std.specs.Prelude.{◌^◌}
use Rattle.std.specs.List.{AllByRecursion}
use Rattle.std.proofs.lemmas.List.{drop-drop, map-append, take-append-drop}
use Rattle.js_session.specs.Restated.{no_findings}
use Rattle.js_session.specs.declared.command.Command.{Command}
use Rattle.js_session.specs.declared.report.Report.{Report}
use Rattle.js_session.specs.declared.row.Row.{Row}
use Rattle.js_session.specs.Live.{nothing_live, report_live, report_with, row_findings}
use Rattle.js_session.specs.Shifted.{shifted_comment, shifted_diagnostic, shifted_row, shifted_span}
use Rattle.js_relex.specs.Documents.{GoesLive, MayMove, live_behind}
use Rattle.js_relex.specs.LiveLists.{AreWithin, HasLasted, Lasts, LiveMayMove, StartsAnew, first_readings, joined_live}
use Rattle.js_relex.specs.LiveLists.{live_from, live_lengths, live_up_to, more_lengths, row_readings, shifted_live}
use Rattle.js_relex.specs.declared.live.LiveLengths.{LiveLengths}
use Rattle.js_relex.proofs.LiveInPlace.{GoesBehind, all_dropped, goes_both, live_report}
use Rattle.js_relex.proofs.LiveLists.{from_rest, lengths_at_place, lengths_further_on, place_within, split_live}
use Rattle.js_relex.proofs.LiveLists.{starts_anew, take_further, tokens_few, up_to_front}
use Rattle.js_relex.proofs.LiveMoved.{live_may_move, moved_behind}
use Rattle.js_relex.proofs.LiveRows.{live-append}

-- The lengths at a place, as they are counted from the start.
pub counted_at : (old : Report) (commands : List Command) (place : ℕ) (none : LiveLengths) (n : ℕ) (rows : List Row)
    → HasLasted commands old → none ≡ live_lengths nothing_live → n ≡ first_readings commands place
    → rows ≡ old.rows
    → more_lengths none n (take place rows) ≡ live_lengths (live_behind nothing_live (take place old.rows))
counted_at old commands place none n rows h none_is n_is rows_are =
    (λ i. more_lengths (none_is i) (n_is i) (take place (rows_are i)))
    ∙ lengths_at_place old.rows commands place h.lasted h.commands_are

-- what stands between two places, and behind the second
pub between : {A : Type 0} (xs : List A) (n m : ℕ) → n ≤ m → take (m - n) (drop n xs) ++ drop m xs ≡ drop n xs
between xs n m ordered =
    let whole : n + (m - n) ≡ m = omega (arith, ordered) in
    ap (λ ys. take (m - n) (drop n xs) ++ ys) (ap (λ k. drop k xs) (sym whole) ∙ sym (drop-drop (m - n) n xs))
    ∙ take-append-drop (m - n) (drop n xs)

module _ (old : Report) (lasted : AllByRecursion Lasts old.rows)
    (live : report_live old ≡ live_behind nothing_live old.rows) where
  -- The lengths at a place are no more than those of the report.
  pub within_report : (place : ℕ) (lengths : LiveLengths)
      → lengths ≡ live_lengths (live_behind nothing_live (take place old.rows))
      → AreWithin lengths (live_lengths (report_live old))
  within_report place lengths is =
      subst (λ l. AreWithin l (live_lengths (report_live old))) (sym is)
      (subst (λ v. AreWithin (live_lengths (live_behind nothing_live (take place old.rows))) (live_lengths v)) (sym live)
      (place_within old.rows place lasted))

  -- The lengths at a place, as they are counted from one before it.
  pub counted_further : (start end : ℕ) (before : LiveLengths) (n : ℕ) (rows : List Row) → start ≤ end
      → before ≡ live_lengths (live_behind nothing_live (take start old.rows)) → rows ≡ old.rows
      → n ≡ row_readings (take (end - start) (drop start rows))
      → more_lengths before n (take (end - start) (drop start rows))
      ≡ live_lengths (live_behind nothing_live (take end old.rows))
  counted_further start end before n rows ordered before_is rows_are n_is =
      let count : n ≡ row_readings (take (end - start) (drop start old.rows)) =
      n_is ∙ ap (λ rs. row_readings (take (end - start) (drop start rs))) rows_are in
      (λ i. more_lengths (before_is i) (count i) (take (end - start) (drop start (rows_are i))))
      ∙ lengths_further_on old.rows start end ordered lasted

  pub short_further : (start end : ℕ) (before : LiveLengths) (n : ℕ) (rows : List Row) → start ≤ end
      → before ≡ live_lengths (live_behind nothing_live (take start old.rows)) → rows ≡ old.rows
      → n ≡ row_readings (take (end - start) (drop start rows)) → length rows < 2 ^ 64 → before.tokens + n < 2 ^ 64
  short_further start end before n rows ordered before_is rows_are n_is short =
      let all : before.tokens + n ≡ length (live_behind nothing_live (take end old.rows)).tokens =
      ap (λ (l : LiveLengths). l.tokens) (counted_further start end before n rows ordered before_is rows_are n_is) in
      let few = tokens_few old.rows end lasted in
      let same = ap length rows_are in
      omega (arith, all, few, same, short)

  module _ (place : ℕ) (lengths : LiveLengths)
      (lengths_are : lengths ≡ live_lengths (live_behind nothing_live (take place old.rows)))
      (anew : StartsAnew (drop place old.rows)) where
    -- the live lists up to the place
    pub up_to_place : live_up_to lengths (report_live old) ≡ live_behind nothing_live (take place old.rows)
    up_to_place =
        let front = live_behind nothing_live (take place old.rows) in
        (λ i. live_up_to (lengths_are i) ((live ∙ split_live old.rows place lasted anew) i))
        ∙ up_to_front front (live_behind nothing_live (drop place old.rows))

    -- and from there on
    pub from_place : live_from lengths (report_live old) ≡ live_behind nothing_live (drop place old.rows)
    from_place =
        let front = live_behind nothing_live (take place old.rows) in
        (λ i. live_from (lengths_are i) ((live ∙ split_live old.rows place lasted anew) i))
        ∙ from_rest front (live_behind nothing_live (drop place old.rows))

    -- The lists up to the place are what the rows before it make live.
    pub before_place : (none a b : Report) (rows : List Row) (end : ℕ) → place ≤ end → rows ≡ old.rows
        → none ≡ report_with [] [] nothing_live
        → GoesLive none (joined_live (report_live none) (live_up_to lengths (report_live old))) a
        → GoesLive a (live_behind (report_live a) (take (end - place) (drop place rows))) b
        → b ≡ report_with [] [] (live_behind nothing_live (take end old.rows))
    before_place none a b rows end ordered rows_are none_is h k =
        let front = take place old.rows in
        let empty : report_live none ≡ nothing_live = ap report_live none_is in
        let lists : joined_live (report_live none) (live_up_to lengths (report_live old))
        ≡ live_behind (report_live none) front =
        ap (λ l. joined_live l (live_up_to lengths (report_live old))) empty
        ∙ up_to_place
        ∙ ap (λ l. live_behind l front) (sym empty) in
        let first : GoesBehind none front a = subst (λ l. GoesLive none l a) lists h in
        let next : GoesBehind a (take (end - place) (drop place old.rows)) b =
        subst (λ rs. GoesBehind a (take (end - place) (drop place rs)) b) rows_are k in
        live_report none b (take end old.rows) none_is
        (subst (λ rs. GoesBehind none rs b) (take_further old.rows place end ordered)
        (goes_both none a b front (take (end - place) (drop place old.rows)) first next))

    -- What is live from the place on may be moved, where the rows from one before it may.
    pub move_from : (from to start : ℕ) → start ≤ place → AllByRecursion (MayMove from to) (drop start old.rows)
        → LiveMayMove from to (live_from lengths (report_live old))
    move_from from to start ordered h =
        let whole : start + (place - start) ≡ place = omega (arith, ordered) in
        let rows : AllByRecursion (MayMove from to) (drop place old.rows) =
        subst (AllByRecursion (MayMove from to))
        (drop-drop (place - start) start old.rows ∙ ap (λ k. drop k old.rows) whole)
        (all_dropped (MayMove from to) (place - start) (drop start old.rows) h) in
        subst (LiveMayMove from to) (sym from_place) (live_may_move from to (drop place old.rows) rows)

    -- The lists from the place on, moved, are what the rows from there on make live, moved.
    pub moved_from : (from to start : ℕ) (a b c : Report) (rows : List Row) → start ≤ place → rows ≡ old.rows
        → GoesLive a
        (live_behind (report_live a) (map (shifted_row from to) (take (place - start) (drop start rows)))) b
        → GoesLive b (joined_live (report_live b) (shifted_live from to (live_from lengths (report_live old)))) c
        → GoesLive a (live_behind (report_live a) (map (shifted_row from to) (drop start old.rows))) c
    moved_from from to start a b c rows ordered rows_are h k =
        let f = shifted_row from to in
        let rest = drop place old.rows in
        let middle = take (place - start) (drop start old.rows) in
        let lists : joined_live (report_live b) (shifted_live from to (live_from lengths (report_live old)))
        ≡ live_behind (report_live b) (map f rest) =
        ap (λ l. joined_live (report_live b) (shifted_live from to l)) from_place
        ∙ ap (joined_live (report_live b)) (sym (moved_behind from to nothing_live rest))
        ∙ sym
        (starts_anew (report_live b) (map f rest) (moved_last rest (all_dropped Lasts place old.rows lasted))
        (moved_anew rest anew)) in
        let first : GoesBehind a (map f middle) b =
        subst (λ rs. GoesBehind a (map f (take (place - start) (drop start rs))) b) rows_are h in
        let next : GoesBehind b (map f rest) c = subst (λ l. GoesLive b l c) lists k in
        let all : map f middle ++ map f rest ≡ map f (drop start old.rows) =
        sym (map-append f middle rest) ∙ ap (map f) (between old.rows start place ordered) in
        subst (λ rs. GoesBehind a rs c) all (goes_both a b c (map f middle) (map f rest) first next)
      where
        none_moved : (row : Row) → row_findings row ≡ no_findings
            → row_findings (shifted_row from to row) ≡ no_findings
        none_moved row e =
            λ i. record {
              diagnostics = map (shifted_diagnostic from to) (e i).diagnostics;
              deferred = map (shifted_diagnostic from to) (e i).deferred;
              comments = map (shifted_comment from to) (e i).comments;
              irregular = map (shifted_span from to) (e i).irregular;
              warnings = map (shifted_span from to) (e i).warnings;
            }

        moved_last : (rows : List Row) → AllByRecursion Lasts rows
            → AllByRecursion Lasts (map (shifted_row from to) rows)
        moved_last [] h = tt
        moved_last (row ∷ rows) h = (
          record { lasting = h.0.lasting; untaken = λ e. none_moved row (h.0.untaken e) },
          moved_last rows h.1,
        )

        moved_anew : (rows : List Row) → StartsAnew rows → StartsAnew (map (shifted_row from to) rows)
        moved_anew [] h = tt
        moved_anew (row ∷ rows) h = h

-- A report of no rows, in which more was made live.
pub goes_on_live : (a b : Report) (rows more : List Row) → a ≡ report_with [] [] (live_behind nothing_live rows)
    → GoesBehind a more b → b ≡ report_with [] [] (live_behind nothing_live (rows ++ more))
goes_on_live a b rows more is h =
    let rows_are : b.rows ≡ [] = h.rows_are ∙ ap (λ (r : Report). r.rows) is in
    let collected : b.collected ≡ [] = h.collected ∙ ap (λ (r : Report). r.collected) is in
    let live : report_live b ≡ live_behind nothing_live (rows ++ more) =
    h.live_is
    ∙ ap (λ (r : Report). live_behind (report_live r) more) is
    ∙ sym (live-append nothing_live rows more) in
    λ i. report_with (rows_are i) (collected i) (live i)
