-- Which rows have the live tokens, told by the rows alone, and the values of these tokens.
use Rattle.std.proofs.Common.{◌≡◌, ℕ, zero, suc, ◌+◌, ◌<◌, ◌≤◌, Bool, true, false, leb, List, [], ◌∷◌, ◌++◌, length, map}
use Rattle.std.proofs.Common.{drop, refl, sym, ◌∙◌, ap, subst, arith, append_assoc, append-nil, Option, Some, None}
use Rattle.std.specs.List.{AllByRecursion, list_all}
use Rattle.std.specs.Option.{option_map, option_map_or}
use Rattle.std.specs.Prelude.{IfSome, if◌then◌else◌, reverse, slice_get}
use Rattle.std.specs.Str.{IsUtf8}
use Rattle.std.proofs.lemmas.Bool.{and_parts, leb-false, leb-true}
use Rattle.std.proofs.lemmas.List.{reverse-append, reverse-reverse}
use Rattle.js_text.specs.declared.source_type.SourceType.{SourceType}
use Rattle.js_text.specs.declared.value.RowValue.{RowValue}
use Rattle.js_kind.specs.TokenParts.{TokenParts}
use Rattle.js_session.specs.declared.command.Command.{Command}
use Rattle.js_session.specs.declared.command.Effect.{Effect}
use Rattle.js_session.specs.declared.command.Effect.TheVariants.{Reads, Peeks, ReLexes, Opens, Rewinds, Commits}
use Rattle.js_session.specs.declared.row.Row.{Row}
use Rattle.js_session.specs.Effects.{effect_of, is_lasting, row_effect}
use Rattle.js_session.specs.Live.{State, after_row, state_after_first}
use Rattle.js_session.specs.Report.{IsSliceOnPlaces, ReportOf, Run}
use Rattle.js_session.proofs.LastingRuns.{lasting_steps}
use Rattle.js_choose.specs.Rules.{IsRule, Rule}
use Rattle.js_lists.specs.declared.take.TokenValue.{TokenValue}
use Rattle.js_lists.specs.LiveLists.{live_taken, taken_of}
use Rattle.js_lists.specs.LiveRows.{RowState, live_rows, rows_behind, with_row}
use Rattle.js_lists.specs.Taken.{Taken, value_handed}
use Rattle.js_lists.proofs.LiveLemmas.{live_tokens, rows_step}
use Rattle.js_lists.proofs.LiveSoFar.{unmarked}
use Rattle.js_lists.proofs.TakenLemmas.{tokens_of_taken}
use Rattle.js_relex.proofs.SplitRuns.{some_row}
use Rattle.js_document.specs.Documents.{commands_of, report_of}
use Rattle.js_document.specs.Gap.{AreInOrder, again_effect, on_effect, reads_again}
use Rattle.js_document.specs.LiveTokens.{Covers, IsLastFrom}
use Rattle.js_document.specs.Values.{IsValueAt, live_rows_in, live_value_at, live_values, starts_again, values_in}
use Rattle.js_document.proofs.EditedRows.{AreChosenRows, chosen_lasts, commands_are}
use Rattle.js_document.proofs.JoinLemmas.{order_at}
use Rattle.js_document.proofs.ListLemmas.{drop_at_item, each_there, get_mapped, get_there, get_within, put_mapped}
use Rattle.js_document.proofs.LiveRows.{AreFollowing, Follows, covered, follows, not_again}
use Rattle.js_document.proofs.LiveRows.Follows.{on, again}
use Rattle.js_document.proofs.OrderLemmas.{rows_ordered}

-- the token of a row is live, unless the row behind reads it again
pub first_stays : (row : Row) (rows : List Row) → starts_again rows ≡ false → live_rows_in (row ∷ rows) ≡ row ∷ live_rows_in rows
first_stays row rows e = ap (λ b. if◌then◌else◌ {A = List Row} b (live_rows_in rows) (row ∷ live_rows_in rows)) e

pub first_goes : (row : Row) (rows : List Row) → starts_again rows ≡ true → live_rows_in (row ∷ rows) ≡ live_rows_in rows
first_goes row rows e = ap (λ b. if◌then◌else◌ {A = List Row} b (live_rows_in rows) (row ∷ live_rows_in rows)) e

-- the same of a row with an index
again_at : (rows : List Row) (n : ℕ) → starts_again (drop n rows) ≡ option_map_or reads_again (slice_get rows n) false
again_at [] zero = refl
again_at [] (suc n) = refl
again_at (row ∷ rows) zero = refl
again_at (row ∷ rows) (suc n) = again_at rows n

pub value_stays : (rows : List Row) (n : ℕ) → option_map_or reads_again (slice_get rows (n + 1)) false ≡ false
    → live_value_at rows n ≡ option_map (λ (row : Row). row.value) (slice_get rows n)
value_stays rows n e =
    ap (λ b. if◌then◌else◌ {A = Option RowValue} b None (option_map (λ (row : Row). row.value) (slice_get rows n))) e

pub value_goes : (rows : List Row) (n : ℕ) → option_map_or reads_again (slice_get rows (n + 1)) false ≡ true
    → live_value_at rows n ≡ None
value_goes rows n e =
    ap (λ b. if◌then◌else◌ {A = Option RowValue} b None (option_map (λ (row : Row). row.value) (slice_get rows n))) e

-- One value more is given.
pub values_next : (rows : List Row) (n : ℕ) (value : RowValue) → live_value_at rows n ≡ Some value
    → values_in (drop n rows) ≡ value ∷ values_in (drop (n + 1) rows)
values_next rows n value at = by_flag (option_map_or reads_again (slice_get rows (n + 1)) false) refl
  where
    by_row : option_map_or reads_again (slice_get rows (n + 1)) false ≡ false → (o : Option Row) → slice_get rows n ≡ o
        → option_map (λ (row : Row). row.value) o ≡ Some value
        → values_in (drop n rows) ≡ value ∷ values_in (drop (n + 1) rows)
    by_row e None there is = absurd (cc)
    by_row e (Some row) there is =
        let same : row.value ≡ value = cc in
        let one : suc n ≡ n + 1 = omega arith in
        let rest = drop (suc n) rows in
        ap values_in (drop_at_item rows n row there)
        ∙ ap (map (λ (r : Row). r.value))
        (first_stays row rest
        (again_at rows (suc n) ∙ ap (λ m. option_map_or reads_again (slice_get rows m) false) one ∙ e))
        ∙ ap (λ v. v ∷ values_in rest) same ∙ ap (λ m. value ∷ values_in (drop m rows)) one

    by_flag : (b : Bool) → option_map_or reads_again (slice_get rows (n + 1)) false ≡ b
        → values_in (drop n rows) ≡ value ∷ values_in (drop (n + 1) rows)
    by_flag true e = (let gone = value_goes rows n e in absurd (cc))
    by_flag false e = by_row e (slice_get rows n) refl (sym (value_stays rows n e) ∙ at)

-- A row gives none.
pub values_past : (rows : List Row) (n : ℕ) → n < length rows → live_value_at rows n ≡ None
    → values_in (drop n rows) ≡ values_in (drop (n + 1) rows)
values_past rows n less none = by_flag (option_map_or reads_again (slice_get rows (n + 1)) false) refl
  where
    by_row : option_map_or reads_again (slice_get rows (n + 1)) false ≡ true → (row : Row) → slice_get rows n ≡ Some row
        → values_in (drop n rows) ≡ values_in (drop (n + 1) rows)
    by_row e row there =
        let one : suc n ≡ n + 1 = omega arith in
        ap values_in (drop_at_item rows n row there)
        ∙ ap (map (λ (r : Row). r.value))
        (first_goes row (drop (suc n) rows)
        (again_at rows (suc n) ∙ ap (λ m. option_map_or reads_again (slice_get rows m) false) one ∙ e))
        ∙ ap (λ m. values_in (drop m rows)) one

    by_flag : (b : Bool) → option_map_or reads_again (slice_get rows (n + 1)) false ≡ b
        → values_in (drop n rows) ≡ values_in (drop (n + 1) rows)
    by_flag true e = (let it = get_there rows n less in by_row e it.0 it.1)
    by_flag false e =
        let it = get_there rows n less in
        let kept : live_value_at rows n ≡ Some it.0.value =
        value_stays rows n e ∙ ap (option_map (λ (row : Row). row.value)) it.1 in
        absurd (cc)

-- a stretch that is a value of a row is one of the text
pub slices_in : (text : List ℕ) (rows : List Row) → AllByRecursion (λ (row : Row). IsSliceOnPlaces text row.value) rows
    → AllByRecursion (IsSliceOnPlaces text) (values_in rows)
slices_in text [] all = tt
slices_in text (row ∷ rows) all = by_flag (starts_again rows) refl (slices_in text rows all.1)
  where
    by_flag : (b : Bool) → starts_again rows ≡ b → AllByRecursion (IsSliceOnPlaces text) (values_in rows)
        → AllByRecursion (IsSliceOnPlaces text) (values_in (row ∷ rows))
    by_flag true e rest =
        subst (λ rs. AllByRecursion (IsSliceOnPlaces text) (map (λ (r : Row). r.value) rs)) (sym (first_goes row rows e))
        rest
    by_flag false e rest =
        subst (λ rs. AllByRecursion (IsSliceOnPlaces text) (map (λ (r : Row). r.value) rs)) (sym (first_stays row rows e))
        (all.0, rest)

-- and so is one that is handed over
pub slice_handed : (text : List ℕ) (given : Option TokenValue) (value : RowValue)
    → option_map value_handed given ≡ Some value → IsSliceOnPlaces text value
    → IfSome given (λ v. IsSliceOnPlaces text (value_handed v))
slice_handed text None value is slice = tt
slice_handed text (Some v) value is slice =
    (let same : value_handed v ≡ value = cc in subst (IsSliceOnPlaces text) (sym same) slice)

-- A row that reads on is live behind those that are.
rows_on : (e : Effect) (row : Row) (backward : List Row) → on_effect e ≡ true
    → with_row e row (unmarked backward) ≡ unmarked (row ∷ backward)
rows_on (Reads goal) row backward reads = refl
rows_on (Peeks goal) row backward reads = absurd (cc)
rows_on (ReLexes goal) row backward reads = absurd (cc)
rows_on Opens row backward reads = absurd (cc)
rows_on Rewinds row backward reads = absurd (cc)
rows_on Commits row backward reads = absurd (cc)

-- One that reads again is live in the place of the last one.
rows_again : (e : Effect) (row last : Row) (before : List Row) → again_effect e ≡ true → row.taken ≡ true
    → with_row e row (unmarked (last ∷ before)) ≡ unmarked (row ∷ before)
rows_again (Reads goal) row last before reads taken = absurd (cc)
rows_again (Peeks goal) row last before reads taken = absurd (cc)
rows_again (ReLexes goal) row last before reads taken =
    ap (λ b. if◌then◌else◌ {A = RowState} b (unmarked (row ∷ before)) (unmarked (last ∷ before))) taken
rows_again Opens row last before reads taken = absurd (cc)
rows_again Rewinds row last before reads taken = absurd (cc)
rows_again Commits row last before reads taken = absurd (cc)

-- what is live behind a run, where this is live before it
live_behind_run : (text : List ℕ) (t : SourceType) (s : State) (commands : List Command) (rows : List Row) (last : Row)
    (before : List Row) → list_all is_lasting commands ≡ true → Run text t s commands rows
    → AreFollowing last.token rows
    → rows_behind (unmarked (last ∷ before)) commands rows ≡ unmarked (reverse (live_rows_in (last ∷ rows)) ++ before)
live_behind_run text t s [] rows last before lasting run each =
    subst (λ (rs : List Row). unmarked (last ∷ before) ≡ unmarked (reverse (live_rows_in (last ∷ rs)) ++ before)) (sym run)
    refl
live_behind_run text t s (c ∷ cs) [] last before lasting run each = absurd (some_row text t s c cs lasting run)
live_behind_run text t s (c ∷ cs) (row ∷ rows) last before lasting run each =
    let both = and_parts (is_lasting c) (list_all is_lasting cs) lasting in
    let step = lasting_steps c both.0 in
    let run = rw step at run in
    rows_step (unmarked (last ∷ before)) c cs row rows step
    ∙ by_row run.0.command_is each.0
    (λ now. live_behind_run text t (after_row (effect_of c) row s) cs rows row now both.1 run.1 each.1)
  where
    by_row : row.command ≡ Some c → Follows last.token row
        → ((now : List Row) → rows_behind (unmarked (row ∷ now)) cs rows
        ≡ unmarked (reverse (live_rows_in (row ∷ rows)) ++ now))
        → rows_behind (with_row (effect_of c) row (unmarked (last ∷ before))) cs rows
        ≡ unmarked (reverse (live_rows_in (last ∷ row ∷ rows)) ++ before)
    by_row is (on reads apart) rest =
        let live = live_rows_in (row ∷ rows) in
        let effect = ap (λ (o : Option Command). on_effect (row_effect o)) (sym is) ∙ reads in
        ap (λ (x : RowState). rows_behind x cs rows) (rows_on (effect_of c) row (last ∷ before) effect)
        ∙ rest (last ∷ before)
        ∙ ap unmarked
        (sym
        (ap (λ rs. reverse rs ++ before)
        (first_stays last (row ∷ rows) (not_again (row_effect row.command) reads))
        ∙ ap (λ rs. rs ++ before) (reverse-append (last ∷ []) live) ∙ append_assoc (reverse live) (last ∷ []) before))
    by_row is (again reads taken start) rest =
        let effect = ap (λ (o : Option Command). again_effect (row_effect o)) (sym is) ∙ reads in
        ap (λ (x : RowState). rows_behind x cs rows) (rows_again (effect_of c) row last before effect taken)
        ∙ rest before
        ∙ ap (λ rs. unmarked (reverse rs ++ before)) (sym (first_goes last (row ∷ rows) reads))

-- The row with the index is this one, and the next one starts where its token ends, or behind that.
record IsLiveAt (rows : List Row) (index : ℕ) (row : Row) : Type 0 where
  is_there : slice_get rows index ≡ Some row
  apart : (next : Row) → slice_get rows (suc index) ≡ Some next → row.token.end ≤ next.token.start

-- Each live row is such a one.
live_at : (first : Row) (behind : List Row) → AreFollowing first.token behind → (n : ℕ) (row : Row)
    → slice_get (live_rows_in (first ∷ behind)) n ≡ Some row → (index : ℕ) × IsLiveAt (first ∷ behind) index row
live_at first [] each zero row at = (0, record { is_there = at; apart = λ next there. absurd (cc) })
live_at first [] each (suc n) row at = absurd (cc)
live_at first (next ∷ rest) each n row at = by_flag (reads_again next) refl n at (live_at next rest each.1)
  where
    later : ((index : ℕ) × IsLiveAt (next ∷ rest) index row) → (index : ℕ) × IsLiveAt (first ∷ next ∷ rest) index row
    later it = (suc it.0, record { is_there = it.1.is_there; apart = it.1.apart })

    apart_from : Follows first.token next → reads_again next ≡ false → first.token.end ≤ next.token.start
    apart_from (on reads apart) e = apart
    apart_from (again reads taken start) e = absurd (cc)

    by_flag : (b : Bool) → reads_again next ≡ b → (m : ℕ)
        → slice_get (if◌then◌else◌ {A = List Row} b (live_rows_in (next ∷ rest)) (first ∷ live_rows_in (next ∷ rest))) m
        ≡ Some row
        → ((k : ℕ) (r : Row) → slice_get (live_rows_in (next ∷ rest)) k ≡ Some r
        → ((index : ℕ) × IsLiveAt (next ∷ rest) index r))
        → (index : ℕ) × IsLiveAt (first ∷ next ∷ rest) index row
    by_flag true e m there behind = later (behind m row there)
    by_flag false e zero there behind =
        let same : first ≡ row = cc in (
          0,
          record {
            is_there = there;
            apart = λ other is.
                let other_is : next ≡ other = cc in
                let starts = apart_from each.0 e in
                let ends = ap (λ (r : Row). r.token.end) same in
                let begins = ap (λ (r : Row). r.token.start) other_is in
                omega (arith, starts, ends, begins);
          },
        )
    by_flag false e (suc m) there behind = later (behind m row there)

-- The live row whose token has a byte is the last row that starts there or before it.
row_is_last : (rows : List Row) → AreInOrder rows → (offset index : ℕ) → (last : IsLastFrom offset rows index) → (n : ℕ)
    (row : Row) → IsLiveAt rows n row → Covers offset row.token → row ≡ last.row
row_is_last rows order offset index last n row live covers = by_place (leb n index) refl (leb index n) refl
  where
    -- the row behind starts no later than the last one, where that is behind too
    rises : (next : Row) → slice_get rows (suc n) ≡ Some next → n < index → next.token.start ≤ last.row.token.start
    rises next there less = by_next (leb index (suc n)) refl
      where
        by_next : (b : Bool) → leb index (suc n) ≡ b → next.token.start ≤ last.row.token.start
        by_next true e =
            let few = leb-true index (suc n) e in
            let place : suc n ≡ index = omega (arith, few, less) in
            let both : Some next ≡ Some last.row = sym there ∙ ap (slice_get rows) place ∙ last.is_there in
            let same : next ≡ last.row = cc in
            let starts = ap (λ (r : Row). r.token.start) same in
            omega (arith, starts)
        by_next false e =
            let more = leb-false index (suc n) e in
            (order_at rows (suc n) index next last.row order there last.is_there (omega (arith, more))).starts

    by_place : (b : Bool) → leb n index ≡ b → (c : Bool) → leb index n ≡ c → row ≡ last.row
    by_place false e c f =
        let later = leb-false n index e in
        let past = last.none_later n row (omega (arith, later)) live.is_there in
        let starts = covers.starts in
        absurd (omega (arith, past, starts))
    by_place true e true f =
        let less = leb-true n index e in
        let more = leb-true index n f in
        let place : n ≡ index = omega (arith, less, more) in
        let both : Some row ≡ Some last.row = sym live.is_there ∙ ap (slice_get rows) place ∙ last.is_there in
        cc
    by_place true e false f =
        let before = leb-false index n f in
        let within = get_within rows index last.row last.is_there in
        let it = get_there rows (suc n) (omega (arith, before, within)) in
        let apart = live.apart it.0 it.1 in
        let begins = rises it.0 it.1 (omega (arith, before)) in
        let starts = last.starts in
        let ends = covers.ends in
        absurd (omega (arith, apart, begins, starts, ends))

-- the values of what is taken of rows
values_of_taken : (rows : List Row) → map (λ (x : Taken). x.value) (map taken_of rows) ≡ map (λ (row : Row). row.value) rows
values_of_taken [] = refl
values_of_taken (row ∷ rows) = ap (λ vs. row.value ∷ vs) (values_of_taken rows)

-- where no token has the byte
pub no_value : (offset : ℕ) (tokens : List TokenParts) (values : List RowValue)
    → AllByRecursion (λ token. Covers offset token → ⊥) tokens → IsValueAt offset tokens values None
no_value offset tokens values all = record {
  of_token = λ n token at covers. absurd (each_there (λ (x : TokenParts). Covers offset x → ⊥) tokens n token all at covers);
  none = λ same. refl;
}

module _ (rule : Rule) (law : IsRule rule) (text : List ℕ) (t : SourceType) (rows : List Row) (u : IsUtf8 text)
    (a : AreChosenRows rule text t rows) where
  -- So these are the live rows of a session whose commands are chosen.
  live_rows_are : live_rows (commands_of rows) rows ≡ live_rows_in rows
  live_rows_are =
      let lasting = chosen_lasts rule law text (state_after_first a.first) a.commands a.behind a.chosen in
      let live = live_rows_in (a.first ∷ a.behind) in
      ap (λ cs. live_rows cs rows) (commands_are rule law text t rows a) ∙ ap (live_rows a.commands) a.rows_are
      ∙ ap (λ (x : RowState). reverse x.now)
      (live_behind_run text t (state_after_first a.first) a.commands a.behind a.first [] lasting a.run
      (follows rule law text t rows u a))
      ∙ ap (λ rs. reverse rs) (append-nil (reverse live)) ∙ reverse-reverse live ∙ ap live_rows_in (sym a.rows_are)

  -- their values
  pub values_are : live_values (commands_of rows) rows ≡ values_in rows
  values_are =
      values_of_taken (live_rows (commands_of rows) rows) ∙ ap (map (λ (row : Row). row.value)) live_rows_are

  module _ (is : ReportOf text t false (commands_of rows) (report_of rows)) where
    -- and their tokens
    pub taken_tokens : map (λ (x : Taken). x.token) (live_taken (commands_of rows) rows) ≡ (report_of rows).tokens
    taken_tokens =
        tokens_of_taken (live_rows (commands_of rows) rows)
        ∙ live_tokens text t false (commands_of rows) (report_of rows) is

    pub tokens_are : map (λ (row : Row). row.token) (live_rows_in rows) ≡ (report_of rows).tokens
    tokens_are =
        ap (map (λ (row : Row). row.token)) (sym live_rows_are)
        ∙ live_tokens text t false (commands_of rows) (report_of rows) is

    -- The token of the last row that starts at the offset or before it has the byte, and so the value is that of the row.
    pub value_there : (offset index : ℕ) (last : IsLastFrom offset rows index) → offset < last.row.token.end
        → IsValueAt offset (report_of rows).tokens (live_values (commands_of rows) rows) (Some last.row.value)
    value_there offset index last ends = record {
      of_token = by_token;
      none = λ all.
          let here = covered rule law text t rows u a offset index last ends in
          absurd
          (each_there (λ (x : TokenParts). Covers offset x → ⊥) (report_of rows).tokens here.index last.row.token all here.is_there
          here.covers);
    }
      where
        by_token : (n : ℕ) (token : TokenParts) → slice_get (report_of rows).tokens n ≡ Some token
            → Covers offset token → Some last.row.value ≡ slice_get (live_values (commands_of rows) rows) n
        by_token n token at covers =
            let it = get_mapped (λ (row : Row). row.token) (live_rows_in rows) n token
            (ap (λ (ts : List TokenParts). slice_get ts n) tokens_are ∙ at) in
            let live = (subst (λ (rs : List Row). slice_get (live_rows_in rs) n ≡ Some it.0 → ((m : ℕ) × IsLiveAt rs m it.0))
            (sym a.rows_are) (live_at a.first a.behind (follows rule law text t rows u a) n it.0)) it.1 in
            let order = (rows_ordered rule law text t rows u a).order in
            let same = row_is_last rows order offset index last live.0 it.0 live.1
            (subst (Covers offset) (sym it.2) covers) in
            ap (λ (row : Row). Some row.value) (sym same)
            ∙ sym
            (ap (λ vs. slice_get vs n) values_are
            ∙ put_mapped (λ (row : Row). row.value) (live_rows_in rows) n it.0 it.1)
