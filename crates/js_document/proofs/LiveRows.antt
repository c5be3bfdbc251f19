-- The live tokens of rows whose commands are chosen.
use Rattle.std.proofs.Common.{◌≡◌, ℕ, zero, suc, ◌+◌, ◌<◌, ◌≤◌, Bool, true, false, leb, List, [], ◌∷◌, ◌++◌, length, take, drop}
use Rattle.std.proofs.Common.{refl, sym, ◌∙◌, ap, subst, arith, append_assoc, Some, None}
use Rattle.std.specs.List.{AllByRecursion}
use Rattle.std.specs.Prelude.{MatchBool, if◌then◌else◌, slice_get}
use Rattle.std.specs.Str.{IsCharBoundary, IsUtf8}
use Rattle.std.proofs.lemmas.Bool.{leb-false, leb-true}
use Rattle.std.proofs.lemmas.List.{take-append-drop}
use Rattle.js_text.specs.declared.source_type.SourceType.{SourceType}
use Rattle.js_kind.specs.TokenParts.{TokenParts}
use Rattle.js_grammar.specs.Goals.{GoalReads}
use Rattle.js_grammar.specs.ReLexed.{fits}
use Rattle.js_lexer.specs.Lexer.{token_or_default}
use Rattle.js_session.specs.declared.command.Command.{Command}
use Rattle.js_session.specs.declared.command.Effect.{Effect}
use Rattle.js_session.specs.declared.command.Effect.TheVariants.{Reads, Peeks, ReLexes, Opens, Rewinds, Commits}
use Rattle.js_session.specs.declared.row.Row.{Row}
use Rattle.js_session.specs.Effects.{effect_of, row_effect}
use Rattle.js_session.specs.Live.{State, after_row, last_live, outcome_of, state_after_first, with_re_lexed}
use Rattle.js_session.specs.Report.{IsNotTaken, IsOfEffect, IsRead, IsReLexed, IsRow, Run}
use Rattle.js_session.proofs.LastingRuns.{GoesOnBehind, behind_first, lasting_steps}
use Rattle.js_session.proofs.LiveLemmas.{with_last-append}
use Rattle.js_session.proofs.WholeLemmas.{row_onward}
use Rattle.js_choose.specs.Rules.{IsDue, IsRule, Rule}
use Rattle.js_choose.specs.Rules.IsDue.{reads_on as due_on, reads_again as due_again}
use Rattle.js_choose.proofs.ChosenLemmas.{ChosenFrom}
use Rattle.js_lexer.specs.Lexer.{IsOnPlaces}
use Rattle.js_document.specs.Documents.{report_of}
use Rattle.js_document.specs.Gap.{AreInOrder, again_effect, on_effect, reads_again, reads_on}
use Rattle.js_document.specs.LiveTokens.{Covers, IsCovered, IsLastFrom, tokens_in, tokens_with}
use Rattle.js_document.specs.Reading.{state_of, with_rows}
use Rattle.js_document.specs.States.{IsLast}
use Rattle.js_document.proofs.BehindTokens.{is_behind}
use Rattle.js_document.proofs.ChangedRows.{BeginsAnew, all_tokens, rows_anew}
use Rattle.js_document.proofs.LastTokens.{last_some, last_split}
use Rattle.js_document.proofs.EditedRows.{AreChosenRows, due_lasts}
use Rattle.js_document.proofs.HeldLemmas.{report_tokens}
use Rattle.js_document.proofs.JoinLemmas.{order_at}
use Rattle.js_document.proofs.ListLemmas.{get_dropped, get_right, get_within}
use Rattle.js_document.proofs.OrderLemmas.{over, rows_ordered}
use Rattle.js_document.proofs.RuleLemmas.{goes_behind}
use Rattle.js_document.proofs.TokenLemmas.{by_effect, rows_both}

-- The row reads a token behind the last one, from its end on, or that one again, from where it starts.
pub data Follows (last : TokenParts) (row : Row) : Type 0 where
  on : reads_on row ≡ true → last.end ≤ row.token.start → Follows last row
  again : reads_again row ≡ true → row.taken ≡ true → row.token.start ≡ last.start → Follows last row

-- Each of the rows does, behind the token of the one before it.
abbrev pub AreFollowing : TokenParts → List Row → Type 0
AreFollowing last [] = Unit {0}
AreFollowing last (row ∷ rows) = Follows last row × AreFollowing row.token rows

-- a row that is due
follows_due : (text : List ℕ) (t : SourceType) (s : State) (c : Command) (row : Row) (last : TokenParts) → IsUtf8 text
    → GoesOnBehind text s last → IsDue text s.now.tokens c → IsRow text t s.now (Some c) row → Follows last row
follows_due text t s c row last u behind due is = by_due due
  where
    by_due : IsDue text s.now.tokens c → Follows last row
    by_due (due_on goal effect onward later may) =
        let read : IsRead text t s.now goal row = subst (λ e. IsOfEffect text t s.now e row) effect is.gives in
        let place : row.place ≡ last.end = is.place ∙ ap (λ o. (token_or_default o).end) behind.last_is in
        let start : IsCharBoundary text row.place = subst (IsCharBoundary text) (sym place) behind.may.lies.end in
        let from = (row_onward text t s.now goal row onward u start read is.places).onward in
        on (ap (λ o. on_effect (row_effect o)) is.command_is ∙ ap on_effect effect) (omega (arith, place, from))
    by_due (due_again goal effect final it is_last fit) =
        let same : it ≡ last = (let e : Some it ≡ Some last = sym is_last ∙ behind.last_is in cc) in
        let fits_it : fits text goal last ≡ true =
        subst (λ x. fits text goal x ≡ true) same (fit u (subst (IsOnPlaces text) (sym same) behind.may.lies)) in
        let gives : IsReLexed text t s.now goal row =
        subst (λ b. MatchBool b (IsReLexed text t s.now goal row) (IsNotTaken s.now row))
        (ap (λ o. fits text goal (token_or_default o)) behind.last_is ∙ fits_it)
        (subst (λ e. IsOfEffect text t s.now e row) effect is.gives) in
        let read : GoalReads text t goal (Some last) (token_or_default (last_live s.now)).start (outcome_of row) =
        subst (λ o. GoalReads text t goal o (token_or_default (last_live s.now)).start (outcome_of row)) behind.last_is
        gives.reads in
        again (ap (λ o. again_effect (row_effect o)) is.command_is ∙ ap again_effect effect) gives.taken
        (over text t goal last (token_or_default (last_live s.now)).start (outcome_of row) u behind.may.lies
        behind.may.spelled final fits_it read).start

run_follows : (rule : Rule) → IsRule rule → (text : List ℕ) (t : SourceType) (s : State) (commands : List Command)
    (rows : List Row) (last : TokenParts) → IsUtf8 text → GoesOnBehind text s last → Run text t s commands rows
    → ChosenFrom (rule text) s commands rows → AreFollowing last rows
run_follows rule law text t s [] rows last u behind run chosen = subst (AreFollowing last) (sym run) tt
run_follows rule law text t s (c ∷ cs) [] last u behind run chosen = absurd chosen
run_follows rule law text t s (c ∷ cs) (row ∷ rows) last u behind run chosen =
    let due = law text s.now.tokens c chosen.0 in
    let lasts = due_lasts text s.now.tokens c due in
    let step = lasting_steps c lasts in
    let run = rw step at run in (
      follows_due text t s c row last u behind due run.0,
      run_follows rule law text t (after_row (effect_of c) row s) cs rows row.token u
          (goes_behind text t s c row last lasts behind run.0) run.1 chosen.1,
    )

-- what a row that reads on makes live
effect_on : (e : Effect) (row : Row) (tokens : List TokenParts) → on_effect e ≡ true
    → by_effect e row tokens ≡ tokens ++ row.token ∷ []
effect_on (Reads goal) row tokens reads = refl
effect_on (Peeks goal) row tokens reads = absurd (cc)
effect_on (ReLexes goal) row tokens reads = absurd (cc)
effect_on Opens row tokens reads = absurd (cc)
effect_on Rewinds row tokens reads = absurd (cc)
effect_on Commits row tokens reads = absurd (cc)

pub not_again : (e : Effect) → on_effect e ≡ true → again_effect e ≡ false
not_again (Reads goal) reads = refl
not_again (Peeks goal) reads = refl
not_again (ReLexes goal) reads = absurd (cc)
not_again Opens reads = refl
not_again Rewinds reads = refl
not_again Commits reads = refl

-- and one that reads again
effect_again : (e : Effect) (row : Row) (before : List TokenParts) (last : TokenParts) → again_effect e ≡ true
    → row.taken ≡ true → by_effect e row (before ++ last ∷ []) ≡ before ++ row.token ∷ []
effect_again (Reads goal) row before last reads taken = absurd (cc)
effect_again (Peeks goal) row before last reads taken = absurd (cc)
effect_again (ReLexes goal) row before last reads taken =
    ap (λ b. (if◌then◌else◌ {A = State} b (record (state_of (before ++ last ∷ [])) {
      now = with_re_lexed (state_of (before ++ last ∷ [])).now (outcome_of row);
    }) (state_of (before ++ last ∷ []))).now.tokens) taken
    ∙ with_last-append before last [] row.token
effect_again Opens row before last reads taken = absurd (cc)
effect_again Rewinds row before last reads taken = absurd (cc)
effect_again Commits row before last reads taken = absurd (cc)

-- what is live behind a token and such rows
pub live_behind_token : (rows : List Row) (last : TokenParts) (before : List TokenParts) → AreFollowing last rows
    → with_rows (before ++ last ∷ []) rows ≡ before ++ tokens_with last rows
live_behind_token [] last before follows = refl
live_behind_token (row ∷ rows) last before follows =
    by_row follows.0 (live_behind_token rows row.token (before ++ last ∷ []) follows.1)
    (live_behind_token rows row.token before follows.1)
  where
    chosen : (b : Bool) → reads_again row ≡ b
        → (if◌then◌else◌ {A = List TokenParts} b (tokens_with row.token rows) (last ∷ tokens_with row.token rows))
        ≡ tokens_with last (row ∷ rows)
    chosen b is =
        ap (λ x. if◌then◌else◌ {A = List TokenParts} x (tokens_with row.token rows) (last ∷ tokens_with row.token rows))
        (sym is)

    by_row : Follows last row
        → with_rows ((before ++ last ∷ []) ++ row.token ∷ []) rows ≡ (before ++ last ∷ []) ++ tokens_with row.token rows
        → with_rows (before ++ row.token ∷ []) rows ≡ before ++ tokens_with row.token rows
        → with_rows (before ++ last ∷ []) (row ∷ rows) ≡ before ++ tokens_with last (row ∷ rows)
    by_row (on reads apart) behind instead =
        ap (λ ts. with_rows ts rows) (effect_on (row_effect row.command) row (before ++ last ∷ []) reads)
        ∙ behind ∙ append_assoc before (last ∷ []) (tokens_with row.token rows)
        ∙ ap (λ ts. before ++ ts) (chosen false (not_again (row_effect row.command) reads))
    by_row (again reads taken start) behind instead =
        ap (λ ts. with_rows ts rows) (effect_again (row_effect row.command) row before last reads taken)
        ∙ instead ∙ ap (λ ts. before ++ ts) (chosen true reads)

-- of two rows, one behind the other, the second follows the first
follows_at : (first : Row) (behind : List Row) (n : ℕ) (x y : Row) → AreFollowing first.token behind
    → slice_get (first ∷ behind) n ≡ Some x → slice_get behind n ≡ Some y → Follows x.token y
follows_at first [] n x y follows at_x at_y = absurd (cc)
follows_at first (row ∷ rows) zero x y follows at_x at_y =
    let one : first ≡ x = cc in
    let two : row ≡ y = cc in
    subst (λ (r : Row). Follows r.token y) one (subst (Follows first.token) two follows.0)
follows_at first (row ∷ rows) (suc n) x y follows at_x at_y = follows_at row rows n x y follows.1 at_x at_y

-- what holds of each row by its index holds of all
all_of : (P : Row → Type 0) (rows : List Row)
    → ((index : ℕ) (row : Row) → slice_get rows index ≡ Some row → P row) → AllByRecursion P rows
all_of P [] each = tt
all_of P (row ∷ rows) each = (each 0 row refl, all_of P rows (λ index r at. each (suc index) r at))

module _ (rule : Rule) (law : IsRule rule) (text : List ℕ) (t : SourceType) (rows : List Row) (u : IsUtf8 text)
    (a : AreChosenRows rule text t rows) where
  pub follows : AreFollowing a.first.token a.behind
  follows =
      run_follows rule law text t (state_after_first a.first) a.commands a.behind a.first.token u
      (behind_first text t a.first a.is_first) a.run a.chosen

  pub first_on : reads_on a.first ≡ true
  first_on = ap (λ o. on_effect (row_effect o)) a.is_first.command_is

  -- The live tokens are told by the rows alone.
  pub live_in : with_rows [] rows ≡ tokens_in rows
  live_in =
      ap (with_rows []) a.rows_are
      ∙ ap (λ ts. with_rows ts a.behind) (effect_on (row_effect a.first.command) a.first [] first_on)
      ∙ live_behind_token a.behind a.first.token [] follows ∙ ap tokens_in (sym a.rows_are)

  pub report_tokens_in : (report_of rows).tokens ≡ tokens_in rows
  report_tokens_in = report_tokens rule law text t rows a ∙ live_in

  order : AreInOrder rows
  order = (rows_ordered rule law text t rows u a).order

  module _ (offset : ℕ) where
    -- No row starts at the offset or before it.
    pub none_from : ((index : ℕ) (row : Row) → slice_get rows index ≡ Some row → offset < row.token.start)
        → AllByRecursion (λ token. Covers offset token → ⊥) (report_of rows).tokens
    none_from none =
        subst (AllByRecursion (λ token. Covers offset token → ⊥)) (sym (report_tokens rule law text t rows a))
        (all_tokens (λ token. Covers offset token → ⊥) rows []
        (all_of (λ (row : Row). Covers offset row.token → ⊥) rows
        (λ index row at covers. let past = none index row at in let starts = covers.starts in
        omega (arith, past, starts))) tt)

    module _ (index : ℕ) (is : IsLastFrom offset rows index) where
      -- The last that does ends there.
      pub none_past : is.row.token.end ≤ offset
          → AllByRecursion (λ token. Covers offset token → ⊥) (report_of rows).tokens
      none_past ends =
          subst (AllByRecursion (λ token. Covers offset token → ⊥)) (sym (report_tokens rule law text t rows a))
          (all_tokens (λ token. Covers offset token → ⊥) rows []
          (all_of (λ (row : Row). Covers offset row.token → ⊥) rows each) tt)
        where
          each : (n : ℕ) (row : Row) → slice_get rows n ≡ Some row → Covers offset row.token → ⊥
          each n row at covers = by_place (leb n index) refl
            where
              by_place : (b : Bool) → leb n index ≡ b → ⊥
              by_place false e =
                  let later = leb-false n index e in
                  let past = is.none_later n row (omega (arith, later)) at in
                  let starts = covers.starts in
                  omega (arith, past, starts)
              by_place true e = by_end (leb index n) refl
                where
                  within : offset < row.token.end
                  within = covers.ends

                  by_end : (b : Bool) → leb index n ≡ b → ⊥
                  by_end true f =
                      let one = leb-true n index e in
                      let two = leb-true index n f in
                      let place : n ≡ index = omega (arith, one, two) in
                      let both : Some row ≡ Some is.row = sym at ∙ ap (slice_get rows) place ∙ is.is_there in
                      let same : row ≡ is.row = cc in
                      let end = ap (λ (r : Row). r.token.end) same in
                      omega (arith, end, ends, within)
                  by_end false f =
                      let less = leb-false index n f in
                      let end = (order_at rows n index row is.row order at is.is_there (omega (arith, less))).ends in
                      omega (arith, end, ends, within)

      -- The rows behind it begin with one that reads on.
      anew : BeginsAnew (drop (suc index) rows)
      anew = by_rest (drop (suc index) rows) refl
        where
          by_rest : (rest : List Row) → drop (suc index) rows ≡ rest → BeginsAnew rest
          by_rest [] e = tt
          by_rest (next ∷ rest) e = by_follows (follows_at a.first a.behind index is.row next follows here there)
            where
              at : slice_get rows (suc index) ≡ Some next
              at =
                  ap (slice_get rows) (let place : suc index ≡ suc index + 0 = omega arith in place)
                  ∙ sym (get_dropped (suc index) 0 rows) ∙ ap (λ xs. slice_get xs 0) e

              here : slice_get (a.first ∷ a.behind) index ≡ Some is.row
              here = ap (λ rs. slice_get rs index) (sym a.rows_are) ∙ is.is_there

              there : slice_get a.behind index ≡ Some next
              there = ap (λ rs. slice_get rs (suc index)) (sym a.rows_are) ∙ at

              by_follows : Follows is.row.token next → reads_on next ≡ true
              by_follows (on reads apart) = reads
              by_follows (again reads taken start) =
                  let past = is.none_later (suc index) next (omega arith) at in
                  let starts = is.starts in
                  absurd (omega (arith, past, starts, start))

      -- So its token is live.
      pub covered : offset < is.row.token.end → IsCovered offset (report_of rows).tokens is.row.token
      covered ends =
          let less = get_within rows index is.row is.is_there in
          let behind = is_behind rule law text t rows a index less in
          let last : IsLast is.row.token (with_rows [] (take (suc index) rows)) =
          subst (IsLast is.row.token) behind.tokens_are (behind.last_is is.row is.is_there) in
          let split = last_split None (with_rows [] (take (suc index) rows)) is.row.token last
          (last_some (with_rows [] (take (suc index) rows)) is.row.token last) in
          let rest = with_rows [] (drop (suc index) rows) in
          let whole : with_rows [] rows ≡ (split.0 ++ is.row.token ∷ []) ++ rest =
          ap (with_rows []) (sym (take-append-drop (suc index) rows))
          ∙ rows_both [] (take (suc index) rows) (drop (suc index) rows)
          ∙ rows_anew (drop (suc index) rows) (with_rows [] (take (suc index) rows)) anew
          ∙ ap (λ ts. ts ++ rest) split.1 in
          record {
            index = length split.0;
            is_there =
                ap (λ ts. slice_get ts (length split.0)) (report_tokens rule law text t rows a ∙ whole
                ∙ append_assoc split.0 (is.row.token ∷ []) rest)
                ∙ ap (slice_get (split.0 ++ is.row.token ∷ rest))
                (let place : length split.0 ≡ length split.0 + 0 = omega arith in place)
                ∙ get_right split.0 (is.row.token ∷ rest) 0;
            covers = record { starts = is.starts; ends = ends };
          }
