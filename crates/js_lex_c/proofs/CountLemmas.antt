-- A source whose goals are chosen has one token more than bytes, at most.
use Rattle.std.proofs.Common.{◌≡◌, ℕ, suc, ◌+◌, ◌≤◌, Bool, true, List, [], ◌∷◌, ◌++◌, length, take, refl}
use Rattle.std.proofs.Common.{sym, ◌∙◌, ap, subst, arith, false, Some, None, Result, Ok, Err}
use Rattle.std.proofs.lemmas.List.{length-append, length-map}
use Rattle.std.proofs.lemmas.Str.{IsCharBoundary-start}
use Rattle.std.specs.Prelude.{MatchBool, slice_get}
use Rattle.std.specs.Str.{IsUtf8, IsCharBoundary}
use Rattle.js_text.specs.Lists.{with_last}
use Rattle.js_text.specs.declared.source_type.SourceType.{SourceType}
use Rattle.js_kind.specs.TokenParts.{TokenParts}
use Rattle.js_kind.specs.declared.kind.Kind.TheVariants.{Eof}
use Rattle.js_grammar.specs.Goals.{GoalReads}
use Rattle.js_grammar.specs.Reads.{is_onward}
use Rattle.js_grammar.specs.ReLexed.{fits}
use Rattle.js_grammar.specs.declared.goal.Goal.{Goal}
use Rattle.js_grammar.specs.declared.goal.Goal.TheVariants.{First, Next as NextGoal, RegularExpression}
use Rattle.js_grammar.specs.declared.goal.Goal.TheVariants.{TemplateTail as TailGoal}
use Rattle.js_grammar.proofs.GoalWays.{goal_reads_span}
use Rattle.js_grammar.proofs.TokenStarts.{starts_again}
use Rattle.js_lexer.specs.Lexer.{token_or_default}
use Rattle.js_session.specs.Effects.{effect_of}
use Rattle.js_session.specs.declared.command.Effect.TheVariants.{ReLexes}
use Rattle.js_session.specs.Live.{State, after_row, last_live, live, nothing_live, outcome_of, state_after}
use Rattle.js_session.specs.Live.{state_after_first}
use Rattle.js_session.specs.Report.{AreRows, IsNotTaken, IsReLexed, IsRow, LiesOnPlaces, Run}
use Rattle.js_session.specs.declared.command.Command.{Command}
use Rattle.js_session.specs.declared.command.Command.TheVariants.{Next}
use Rattle.js_session.specs.declared.report.Report.{Report}
use Rattle.js_session.specs.declared.row.Row.{Row}
use Rattle.js_session.proofs.LiveLemmas.{last_or-push, length-with_last}
use Rattle.js_session.proofs.RunLemmas.{state_step}
use Rattle.js_session.proofs.WholeLemmas.{row_onward}
use Rattle.js_auto.specs.Auto.{AreChosen, ReportOfChosen}
use Rattle.js_auto.specs.Choice.{choice, choice_in}
use Rattle.js_choose.proofs.SessionLemmas.{LastLies, last_put, not_end}
use Rattle.js_auto.specs.DueLemmas.{Chosen, chosen_by, chosen_is_step}
use Rattle.js_auto.specs.DueLemmas.Chosen.{reads, reads_expression, reads_part}
use Rattle.js_lists.specs.LiveLists.{live_taken}
use Rattle.js_lists.proofs.LiveLemmas.{run_some, run_step}
use Rattle.js_lex_c.specs.Held.{Held}
use Rattle.js_lex_c.specs.Lists.{AreListsOf, AutoLists, FillsOfNumber, ListsBy, NumberedLists, ReportLists}
use Rattle.js_lex_c.specs.Tokens.{token_records}
use Rattle.js_lex_c.specs.declared.fault.Fault.{Fault}
use Rattle.js_lex_c.specs.declared.fill.JsCounts.{JsCounts}
use Rattle.js_lex_c.proofs.RecordLemmas.{count_records}

-- Before the start of the last token stands a byte at least for each token before it.
record Counted (text : List ℕ) (tokens : List TokenParts) : Type 0 where
  pub lies : LastLies text tokens
  pub few : length tokens ≤ lies.last.start + 1

counted_on : (text : List ℕ) (t : SourceType) (s : State) (row : Row) → IsUtf8 text → (k : Counted text s.now.tokens)
    → ¬ (k.lies.last.kind ≡ Eof) → IsRow text t s.now (Some Next) row
    → Counted text (s.now.tokens ++ row.token ∷ [])
counted_on text t s row u k other is =
    let place : row.place ≡ k.lies.last.end = is.place ∙ ap (λ o. (token_or_default o).end) k.lies.is_last in
    let start : IsCharBoundary text row.place = subst (IsCharBoundary text) (sym place) k.lies.lies.end in
    let on = row_onward text t s.now NextGoal row refl u start is.gives is.places in
    let longer = k.lies.some_text other in
    let more : length (s.now.tokens ++ row.token ∷ []) ≡ length s.now.tokens + 1 =
    length-append s.now.tokens (row.token ∷ []) in
    record {
      lies =
          record {
            last = row.token;
            is_last = last_or-push None s.now.tokens row.token;
            lies = on.lies;
            some_text = on.some_text;
          };
      few = omega (arith, k.few, longer, on.onward, place, more);
    }

counted_taken : (text : List ℕ) (t : SourceType) (s : State) (goal : Goal) (row : Row) → is_onward goal ≡ false
    → IsUtf8 text → (k : Counted text s.now.tokens) → LiesOnPlaces text row → IsReLexed text t s.now goal row
    → Counted text (with_last s.now.tokens row.token)
counted_taken text t s goal row again u k places r =
    let place = (token_or_default (last_live s.now)).start in
    let read : GoalReads text t goal (Some k.lies.last) place (outcome_of row) =
    subst (λ o. GoalReads text t goal o place (outcome_of row)) k.lies.is_last r.reads in
    let span = goal_reads_span text t goal (Some k.lies.last) place (outcome_of row) u read in
    let start : row.token.start ≡ k.lies.last.start =
    starts_again text t goal k.lies.last place (outcome_of row) again read in
    record {
      lies =
          record {
            last = row.token;
            is_last = last_put s.now.tokens k.lies.last row.token k.lies.is_last;
            lies = places.token;
            some_text = span.some_text;
          };
      few = omega (arith, k.few, start, length-with_last s.now.tokens row.token);
    }

counted_again : (text : List ℕ) (t : SourceType) (s : State) (goal : Goal) (row : Row) → is_onward goal ≡ false
    → IsUtf8 text → Counted text s.now.tokens → LiesOnPlaces text row
    → MatchBool (fits text goal (token_or_default (last_live s.now))) (IsReLexed text t s.now goal row)
    (IsNotTaken s.now row)
    → Counted text (after_row (ReLexes goal) row s).now.tokens
counted_again text t s goal row again u k places is = by_fit (fits text goal (token_or_default (last_live s.now))) is
  where
    by_fit : (b : Bool) → MatchBool b (IsReLexed text t s.now goal row) (IsNotTaken s.now row)
        → Counted text (after_row (ReLexes goal) row s).now.tokens
    by_fit true r = rw r.taken (counted_taken text t s goal row again u k places r)
    by_fit false n = rw n.taken k

counted_step : (text : List ℕ) (t : SourceType) (s : State) (c : Command) (row : Row) → IsUtf8 text
    → Counted text s.now.tokens → choice s.now.tokens ≡ Some c → IsRow text t s.now (Some c) row
    → Counted text (after_row (effect_of c) row s).now.tokens
counted_step text t s c row u k e is = by_choice (chosen_by s.now.tokens c e)
  where
    by_choice : Chosen s.now.tokens c → Counted text (after_row (effect_of c) row s).now.tokens
    by_choice (reads next other) =
        subst (λ x. Counted text (after_row (effect_of x) row s).now.tokens) (sym next)
        (counted_on text t s row u k (not_end k.lies.last.kind (other k.lies.last k.lies.is_last))
        (subst (λ x. IsRow text t s.now (Some x) row) next is))
    by_choice (reads_expression next last at fit) =
        let r = subst (λ x. IsRow text t s.now (Some x) row) next is in
        subst (λ x. Counted text (after_row (effect_of x) row s).now.tokens) (sym next)
        (counted_again text t s RegularExpression row refl u k r.places r.gives)
    by_choice (reads_part next last at fit) =
        let r = subst (λ x. IsRow text t s.now (Some x) row) next is in
        subst (λ x. Counted text (after_row (effect_of x) row s).now.tokens) (sym next)
        (counted_again text t s TailGoal row refl u k r.places r.gives)

counted_all : (text : List ℕ) (t : SourceType) (s : State) (commands : List Command) (rows : List Row) → IsUtf8 text
    → Run text t s commands rows
    → ((index : ℕ) (command : Command) → slice_get commands index ≡ Some command
    → choice (state_after s (take index commands) rows).now.tokens ≡ Some command)
    → Counted text s.now.tokens → Counted text (state_after s commands rows).now.tokens
counted_all text t s [] rows u h each k = k
counted_all text t s (c ∷ cs) [] u h each k =
    absurd (run_some text t s c cs (chosen_is_step s.now.tokens c (each 0 c refl)) h)
counted_all text t s (c ∷ cs) (row ∷ rows) u h each k =
    let first : choice s.now.tokens ≡ Some c = each 0 c refl in
    let step = chosen_is_step s.now.tokens c first in
    let run = run_step text t s c cs row rows step h in
    subst (λ x. Counted text x.now.tokens) (sym (state_step s c cs row rows step))
    (counted_all text t (after_row (effect_of c) row s) cs rows u run.1
    (λ index command e.
    sym (ap (λ x. choice x.now.tokens) (state_step s c (take index cs) row rows step)) ∙ each (suc index) command e)
    (counted_step text t s c row u k first run.0))

counted_first : (text : List ℕ) (t : SourceType) (row : Row) → IsUtf8 text → IsRow text t nothing_live None row
    → Counted text (row.token ∷ [])
counted_first text t row u is =
    let start : IsCharBoundary text row.place =
    subst (IsCharBoundary text) (sym is.place) (IsCharBoundary-start text u) in
    let on = row_onward text t nothing_live First row refl u start is.gives is.places in
    record {
      lies = record { last = row.token; is_last = refl; lies = on.lies; some_text = on.some_text };
      few = omega arith;
    }

counted_rows : (text : List ℕ) (t : SourceType) (commands : List Command) (rows : List Row) → IsUtf8 text
    → AreRows text t commands rows → AreChosen commands rows → Counted text (live commands rows).tokens
counted_rows text t commands [] u h c = absurd h
counted_rows text t commands (row ∷ rows) u h c =
    counted_all text t (state_after_first row) commands rows u h.1 c.each (counted_first text t row u h.0)

few_tokens : (source : List ℕ) (t : SourceType) (collects : Bool) (commands : List Command) (report : Report)
    → ReportOfChosen source t collects commands report → length report.tokens ≤ length source + 1
few_tokens source t collects commands report h =
    let k = counted_rows source t commands report.rows h.report_is.utf8 h.report_is.rows h.chosen in
    let same : report.tokens ≡ (live commands report.rows).tokens = ap (λ l. l.tokens) h.report_is.lists in
    let within = k.lies.lies.start.0 in
    let count : length report.tokens ≡ length (live commands report.rows).tokens = ap length same in
    omega (arith, k.few, within, count)

-- and as many records
few_records : (source : List ℕ) (t : SourceType) (commands : List Command) (report : Report) (lists : ReportLists)
    → ReportOfChosen source t false commands report → AreListsOf commands report lists
    → length lists.tokens ≤ length source + 1
few_records source t commands report lists h are =
    let taken = live_taken commands report.rows in
    let records : length lists.tokens ≡ length (token_records 0 taken) = ap (λ l. length l.tokens) are.lists_are in
    omega (
      arith,
      records,
      count_records 0 taken,
      length-map taken (λ x. x.token),
      ap length are.tokens_are,
      few_tokens source t false commands report h,
    )

-- The lists by the choice of goals are those of the chosen goals.
auto_lists : (source : List ℕ) (number : ℕ) (lists : ReportLists)
    → NumberedLists (ListsBy choice_in source) number lists → AutoLists source number lists
auto_lists source number lists n =
    let l = n.are_lists in
    record {
      source_type = n.source_type;
      type_is = n.type_is;
      are_lists =
          record {
            commands = l.commands;
            report = l.report;
            chosen = l.chosen;
            are_lists = l.are_lists;
            few = few_records source n.source_type l.commands l.report lists l.chosen l.are_lists;
          };
    }

-- and so are those that a call fills
pub auto_fills : (source : List ℕ) (number : ℕ) (Causes : Fault → Type 0) (old new : Held)
    (found : Result JsCounts Fault)
    → FillsOfNumber number (NumberedLists (ListsBy choice_in source) number) Causes old new found
    → FillsOfNumber number (AutoLists source number) Causes old new found
auto_fills source number Causes old new (Ok counts) g = record {
  lists = g.lists;
  are = auto_lists source number g.lists g.are;
  filled = g.filled;
  counted = g.counted;
}
auto_fills source number Causes old new (Err fault) e = e
