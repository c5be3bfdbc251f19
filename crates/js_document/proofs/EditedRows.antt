-- The rows of an edited text: those that are kept, those that were read, and the old ones behind them, moved. Each of
-- their commands is the choice behind the tokens before it.
use Rattle.std.proofs.Common.{◌≡◌, ℕ, zero, suc, ◌+◌, ◌<◌, ◌≤◌, Bool, true, false, List, [], ◌∷◌, ◌++◌, length, map}
use Rattle.std.proofs.Common.{take, drop, refl, sym, ◌∙◌, ap, subst, arith, Some, None}
use Rattle.std.specs.List.{AllByRecursion, list_all}
use Rattle.std.proofs.Common.{append_assoc}
use Rattle.std.specs.Prelude.{◌^◌, if◌then◌else◌}
use Rattle.std.specs.Str.{IsUtf8}
use Rattle.std.proofs.lemmas.Bool.{and_parts}
use Rattle.std.proofs.lemmas.List.{length-append, length-take-le, take-append-drop}
use Rattle.std.proofs.lemmas.Str.{IsUtf8-drop}
use Rattle.js_text.specs.Lists.{with_last}
use Rattle.js_text.specs.declared.source_type.SourceType.{SourceType}
use Rattle.js_kind.specs.TokenParts.{TokenParts}
use Rattle.js_session.specs.declared.command.Command.{Command}
use Rattle.js_session.specs.declared.command.Effect.{Effect}
use Rattle.js_session.specs.declared.command.Effect.TheVariants.{Reads, Peeks, ReLexes, Opens, Rewinds, Commits}
use Rattle.js_session.specs.declared.row.Row.{Row}
use Rattle.js_session.specs.Effects.{effect_of, is_lasting, lasts}
use Rattle.js_session.specs.Live.{State, after_row, last_live, live, nothing_live, outcome_of, state_after_first}
use Rattle.js_session.specs.Live.{with_re_lexed}
use Rattle.js_session.specs.Report.{AreRows, IsRow, Run}
use Rattle.js_session.specs.Session.{last_token}
use Rattle.js_session.specs.Shifted.{OfEachPlace, shifted_row, shifted_token}
use Rattle.js_session.proofs.LocalRows.{row_local}
use Rattle.js_session.proofs.LocalRuns.{run_local}
use Rattle.js_session.proofs.ShiftedRows.{run_lies_behind, run_taken_over}
use Rattle.js_session.proofs.LastingRuns.{GoesOnBehind, all_steps, behind_first, lasting_steps}
use Rattle.js_session.proofs.RunLemmas.{run_step}
use Rattle.js_choose.specs.Rules.{AreChosenBy, IsDue, IsRule, ReportBy, Rule}
use Rattle.js_choose.specs.Rules.IsDue.{reads_on, reads_again}
use Rattle.js_choose.proofs.ChosenLemmas.{ChosenFrom, are_chosen, rule_steps}
use Rattle.js_relex.specs.Documents.{IsEdit, edited}
use Rattle.js_relex.proofs.KeptRows.{drop_lasting, take_lasting}
use Rattle.js_relex.proofs.NewRows.{none_collected}
use Rattle.js_relex.proofs.SplitRuns.{some_row}
use Rattle.js_document.specs.Documents.{commands_in, commands_of, report_of}
use Rattle.js_document.specs.Reading.{ChosenOn}
use Rattle.js_document.specs.States.{AlikeAgain, AlikeBehind, AlikeItself, Alikeness, ChoosesAlike}
use Rattle.js_document.proofs.RuleLemmas.{goes_behind, kept_chosen, shifted_chosen}

-- Rows of a text, with the commands that the rule chooses.
pub record AreChosenRows (rule : Rule) (text : List ℕ) (t : SourceType) (rows : List Row) : Type 0 where
  pub first : Row
  pub behind : List Row
  pub commands : List Command
  pub rows_are : rows ≡ first ∷ behind
  pub is_first : IsRow text t nothing_live None first
  pub run : Run text t (state_after_first first) commands behind
  pub chosen : ChosenFrom (rule text) (state_after_first first) commands behind

-- each command that is chosen gives a row that stays
pub due_lasts : (text : List ℕ) (tokens : List TokenParts) (c : Command) → IsDue text tokens c → is_lasting c ≡ true
due_lasts text tokens c (reads_on goal effect onward later may) = ap lasts effect
due_lasts text tokens c (reads_again goal effect final last is_last fit) = ap lasts effect

pub chosen_lasts : (rule : Rule) → IsRule rule → (text : List ℕ) (s : State) (commands : List Command)
    (rows : List Row) → ChosenFrom (rule text) s commands rows → list_all is_lasting commands ≡ true
chosen_lasts rule law text s [] rows chosen = refl
chosen_lasts rule law text s (c ∷ cs) [] chosen = absurd chosen
chosen_lasts rule law text s (c ∷ cs) (row ∷ rows) chosen =
    rw (
      due_lasts text s.now.tokens c (law text s.now.tokens c chosen.0),
      chosen_lasts rule law text (after_row (effect_of c) row s) cs rows chosen.1,
    ) refl

pub on_lasts : (rule : Rule) → IsRule rule → (text : List ℕ) (s : State) (commands : List Command) (rows : List Row)
    → ChosenOn rule text s commands rows → list_all is_lasting commands ≡ true
on_lasts rule law text s [] rows chosen = refl
on_lasts rule law text s (c ∷ cs) [] chosen = absurd chosen
on_lasts rule law text s (c ∷ cs) (row ∷ rows) chosen =
    rw (
      due_lasts text s.now.tokens c (law text s.now.tokens c chosen.0),
      on_lasts rule law text (after_row (effect_of c) row s) cs rows chosen.1,
    ) refl

-- the commands of rows that answer them
pub run_commands : (text : List ℕ) (t : SourceType) (s : State) (commands : List Command) (rows : List Row)
    → list_all is_lasting commands ≡ true → Run text t s commands rows → commands_of rows ≡ commands
run_commands text t s [] rows lasting run = ap commands_of run
run_commands text t s (c ∷ cs) [] lasting run = absurd (some_row text t s c cs lasting run)
run_commands text t s (c ∷ cs) (row ∷ rows) lasting run =
    let both = and_parts (is_lasting c) (list_all is_lasting cs) lasting in
    let step = lasting_steps c both.0 in
    let run = rw step at run in
    ap (λ o. commands_in o ++ commands_of rows) run.0.command_is
    ∙ ap (λ l. c ∷ l) (run_commands text t (after_row (effect_of c) row s) cs rows both.1 run.1)

pub commands_are : (rule : Rule) → IsRule rule → (text : List ℕ) (t : SourceType) (rows : List Row)
    → (a : AreChosenRows rule text t rows) → commands_of rows ≡ a.commands
commands_are rule law text t rows a =
    ap commands_of a.rows_are ∙ ap (λ o. commands_in o ++ commands_of a.behind) a.is_first.command_is
    ∙ run_commands text t (state_after_first a.first) a.commands a.behind
    (chosen_lasts rule law text (state_after_first a.first) a.commands a.behind a.chosen) a.run

-- So they are those of the report of the text, by the rule.
pub report_of_chosen : (rule : Rule) → IsRule rule → (text : List ℕ) (t : SourceType) (rows : List Row) → IsUtf8 text
    → length text < 2 ^ 32 → AreChosenRows rule text t rows
    → ReportBy rule text t false (commands_of rows) (report_of rows)
report_of_chosen rule law text t rows u short a =
    let commands = commands_are rule law text t rows a in
    record {
      report_is =
          record {
            utf8 = u;
            short = short;
            rows =
                subst (λ cs. AreRows text t cs rows) (sym commands)
                (subst (AreRows text t a.commands) (sym a.rows_are) (a.is_first, a.run));
            lists = refl;
            collected_are = sym (none_collected (live (commands_of rows) rows).tokens);
          };
      chosen =
          subst (λ cs. AreChosenBy (rule text) cs rows) (sym commands)
          (subst (AreChosenBy (rule text) a.commands) (sym a.rows_are)
          (are_chosen (rule text) (rule_steps rule law text) a.first a.commands a.behind a.chosen));
    }

-- the state behind commands and the rows that answer them
abbrev pub on_rows : State → List Command → List Row → State
on_rows s [] rows = s
on_rows s (c ∷ cs) [] = s
on_rows s (c ∷ cs) (row ∷ rows) = on_rows (after_row (effect_of c) row s) cs rows

-- What answers commands, and is chosen, up to one of the rows and from there on.
pub record Cuts (rule : Rule) (text : List ℕ) (t : SourceType) (s : State) (commands : List Command) (rows : List Row)
    (count : ℕ) : Type 0 where
  pub run : Run text t s (take count commands) (take count rows)
  pub chosen : ChosenOn rule text s (take count commands) (take count rows)
  pub rest_run : Run text t (on_rows s (take count commands) (take count rows)) (drop count commands) (drop count rows)
  pub rest_chosen : ChosenFrom (rule text) (on_rows s (take count commands) (take count rows)) (drop count commands)
      (drop count rows)

pub cuts : (rule : Rule) (text : List ℕ) (t : SourceType) (s : State) (commands : List Command) (rows : List Row)
    (count : ℕ) → count ≤ length rows → list_all is_lasting commands ≡ true → Run text t s commands rows
    → ChosenFrom (rule text) s commands rows → Cuts rule text t s commands rows count
cuts rule text t s commands rows zero few lasting run chosen =
    record { run = refl; chosen = refl; rest_run = run; rest_chosen = chosen }
cuts rule text t s [] rows (suc count) few lasting run chosen =
    absurd (let none = ap length run in omega (arith, none, few))
cuts rule text t s (c ∷ cs) [] (suc count) few lasting run chosen = absurd chosen
cuts rule text t s (c ∷ cs) (row ∷ rows) (suc count) few lasting run chosen =
    let both = and_parts (is_lasting c) (list_all is_lasting cs) lasting in
    let step = lasting_steps c both.0 in
    let run = rw step at run in
    let next =
    cuts rule text t (after_row (effect_of c) row s) cs rows count (omega (arith, few)) both.1 run.1 chosen.1 in
    record {
      run = run_step text t s c (take count cs) row (take count rows) step run.0 next.run;
      chosen = (chosen.0, next.chosen);
      rest_run = next.rest_run;
      rest_chosen = next.rest_chosen;
    }

-- rows that are chosen, and then more
pub run_glued : (text : List ℕ) (t : SourceType) (s : State) (commands more : List Command) (rows later : List Row)
    → list_all is_lasting commands ≡ true → Run text t s commands rows
    → Run text t (on_rows s commands rows) more later → Run text t s (commands ++ more) (rows ++ later)
run_glued text t s [] more rows later lasting run on =
    subst (λ rs. Run text t s more (rs ++ later)) (sym run) (subst (λ x. Run text t x more later) refl on)
run_glued text t s (c ∷ cs) more [] later lasting run on = absurd (some_row text t s c cs lasting run)
run_glued text t s (c ∷ cs) more (row ∷ rows) later lasting run on =
    let both = and_parts (is_lasting c) (list_all is_lasting cs) lasting in
    let step = lasting_steps c both.0 in
    let run = rw step at run in
    run_step text t s c (cs ++ more) row (rows ++ later) step run.0
    (run_glued text t (after_row (effect_of c) row s) cs more rows later both.1 run.1 on)

pub chosen_glued : (rule : Rule) (text : List ℕ) (s : State) (commands more : List Command) (rows later : List Row)
    → ChosenOn rule text s commands rows → ChosenFrom (rule text) (on_rows s commands rows) more later
    → ChosenFrom (rule text) s (commands ++ more) (rows ++ later)
chosen_glued rule text s [] more rows later chosen on =
    subst (λ rs. ChosenFrom (rule text) s more (rs ++ later)) (sym chosen) on
chosen_glued rule text s (c ∷ cs) more [] later chosen on = absurd chosen
chosen_glued rule text s (c ∷ cs) more (row ∷ rows) later chosen on =
    (chosen.0, chosen_glued rule text (after_row (effect_of c) row s) cs more rows later chosen.1 on)

pub on_glued : (rule : Rule) (text : List ℕ) (s : State) (commands more : List Command) (rows later : List Row)
    → ChosenOn rule text s commands rows → ChosenOn rule text (on_rows s commands rows) more later
    → ChosenOn rule text s (commands ++ more) (rows ++ later)
on_glued rule text s [] more rows later chosen on =
    subst (λ rs. ChosenOn rule text s more (rs ++ later)) (sym chosen) on
on_glued rule text s (c ∷ cs) more [] later chosen on = absurd chosen
on_glued rule text s (c ∷ cs) more (row ∷ rows) later chosen on =
    (chosen.0, on_glued rule text (after_row (effect_of c) row s) cs more rows later chosen.1 on)

-- which tokens are live behind a row depends on those before it alone
pub tokens_of_row : (e : Effect) (row : Row) (a b : State) → a.now.tokens ≡ b.now.tokens
    → (after_row e row a).now.tokens ≡ (after_row e row b).now.tokens
tokens_of_row (Reads goal) row a b same = ap (λ ts. ts ++ row.token ∷ []) same
tokens_of_row (Peeks goal) row a b same = same
tokens_of_row (ReLexes goal) row a b same = by_flag row.taken
  where
    by_flag : (taken : Bool)
        → (if◌then◌else◌ {A = State} taken (record a { now = with_re_lexed a.now (outcome_of row) }) a).now.tokens
        ≡ (if◌then◌else◌ {A = State} taken (record b { now = with_re_lexed b.now (outcome_of row) }) b).now.tokens
    by_flag true = ap (λ ts. with_last ts row.token) same
    by_flag false = same
tokens_of_row Opens row a b same = same
tokens_of_row Rewinds row a b same = same
tokens_of_row Commits row a b same = same

pub chosen_of_tokens : (rule : Rule) (text : List ℕ) (a b : State) (commands : List Command) (rows : List Row)
    → a.now.tokens ≡ b.now.tokens → ChosenOn rule text a commands rows → ChosenOn rule text b commands rows
chosen_of_tokens rule text a b [] rows same chosen = chosen
chosen_of_tokens rule text a b (c ∷ cs) [] same chosen = chosen
chosen_of_tokens rule text a b (c ∷ cs) (row ∷ rows) same chosen = (
  ap (rule text) (sym same) ∙ chosen.0,
  chosen_of_tokens rule text (after_row (effect_of c) row a) (after_row (effect_of c) row b) cs rows
      (tokens_of_row (effect_of c) row a b same) chosen.1,
)

pub tokens_on_rows : (a b : State) (commands : List Command) (rows : List Row) → a.now.tokens ≡ b.now.tokens
    → (on_rows a commands rows).now.tokens ≡ (on_rows b commands rows).now.tokens
tokens_on_rows a b [] rows same = same
tokens_on_rows a b (c ∷ cs) [] same = same
tokens_on_rows a b (c ∷ cs) (row ∷ rows) same =
    tokens_on_rows (after_row (effect_of c) row a) (after_row (effect_of c) row b) cs rows
    (tokens_of_row (effect_of c) row a b same)

-- a session may go on behind the last of rows
pub goes_on_rows : (text : List ℕ) (t : SourceType) (s : State) (commands : List Command) (rows : List Row)
    (last : TokenParts) → list_all is_lasting commands ≡ true → GoesOnBehind text s last → Run text t s commands rows
    → GoesOnBehind text (on_rows s commands rows) (last_token last rows)
goes_on_rows text t s [] rows last lasting on run =
    subst (λ rs. GoesOnBehind text s (last_token last rs)) (sym run) on
goes_on_rows text t s (c ∷ cs) [] last lasting on run = absurd (some_row text t s c cs lasting run)
goes_on_rows text t s (c ∷ cs) (row ∷ rows) last lasting on run =
    let both = and_parts (is_lasting c) (list_all is_lasting cs) lasting in
    let step = lasting_steps c both.0 in
    let run = rw step at run in
    goes_on_rows text t (after_row (effect_of c) row s) cs rows row.token both.1
    (goes_behind text t s c row last both.0 on run.0) run.1

module _ (rule : Rule) (Alike : Alikeness) (law : IsRule rule) (choose : ChoosesAlike rule Alike)
    (itself : AlikeItself Alike) (behind_law : AlikeBehind Alike) (again_law : AlikeAgain Alike)
    (old_text new : List ℕ) (start end : ℕ) (t : SourceType) (all : List Row) (edit : IsEdit old_text start end)
    (u : IsUtf8 old_text) (v : IsUtf8 (edited old_text start end new)) (a : AreChosenRows rule old_text t all) where
  abbrev s : State
  s = state_after_first a.first

  -- the state behind the row with an index
  abbrev pub state_at : ℕ → State
  state_at n = on_rows s (take n a.commands) (take n a.behind)

  abbrev pub token_at : ℕ → TokenParts
  token_at n = last_token a.first.token (take n a.behind)

  lasting : list_all is_lasting a.commands ≡ true
  lasting = chosen_lasts rule law old_text s a.commands a.behind a.chosen

  cut : (n : ℕ) → n ≤ length a.behind → Cuts rule old_text t s a.commands a.behind n
  cut n few = cuts rule old_text t s a.commands a.behind n few lasting a.run a.chosen

  abbrev front : List ℕ
  front = take start old_text

  abbrev rest : List ℕ
  rest = drop end old_text

  there : edited old_text start end new ≡ front ++ (new ++ rest)
  there = append_assoc front new rest

  -- The first rows are rows of the edited text too, where they end four bytes or more before the edit.
  pub record Kept (n : ℕ) : Type 0 where
    pub is_first : IsRow (edited old_text start end new) t nothing_live None a.first
    pub run : Run (edited old_text start end new) t s (take n a.commands) (take n a.behind)
    pub chosen : ChosenOn rule (edited old_text start end new) s (take n a.commands) (take n a.behind)
    pub goes : GoesOnBehind (edited old_text start end new) (state_at n) (token_at n)

  pub kept : (n : ℕ) → n ≤ length a.behind → a.first.token.end + 4 ≤ start
      → AllByRecursion (λ (row : Row). row.token.end + 4 ≤ start) (take n a.behind) → Kept n
  kept n few first near =
      let c = cut n few in
      let whole : front ++ drop start old_text ≡ old_text = take-append-drop start old_text in
      let long : length front ≡ start = length-take-le start old_text edit.starts.0 in
      let steps = take_lasting n a.commands lasting in
      let was = subst (λ x. Run x t s (take n a.commands) (take n a.behind)) (sym whole) c.run in
      let chose = subst (λ x. ChosenOn rule x s (take n a.commands) (take n a.behind)) (sym whole) c.chosen in
      let first_near : a.first.token.end + 4 ≤ length front =
      subst (λ m. a.first.token.end + 4 ≤ m) (sym long) first in
      let all_near =
      subst (λ m. AllByRecursion (λ (row : Row). row.token.end + 4 ≤ m) (take n a.behind)) (sym long) near in
      let utf8 = subst IsUtf8 (sym whole) u in
      let utf8_new = subst IsUtf8 there v in
      let is_first = subst (λ x. IsRow x t nothing_live None a.first) (sym whole) a.is_first in
      let first_is =
      row_local front (drop start old_text) (new ++ rest) t nothing_live None a.first utf8 utf8_new tt first_near
      is_first in
      let run =
      run_local front (drop start old_text) (new ++ rest) t s (take n a.commands) (take n a.behind) utf8 utf8_new
      is_first.places.token (all_steps (take n a.commands) steps) all_near was in
      let goes = goes_on_rows (front ++ (new ++ rest)) t s (take n a.commands) (take n a.behind) a.first.token steps
      (behind_first (front ++ (new ++ rest)) t a.first first_is) run in
      record {
        is_first = subst (λ x. IsRow x t nothing_live None a.first) (sym there) first_is;
        run = subst (λ x. Run x t s (take n a.commands) (take n a.behind)) (sym there) run;
        chosen =
            subst (λ x. ChosenOn rule x s (take n a.commands) (take n a.behind)) (sym there)
            (kept_chosen rule Alike choose itself front (drop start old_text) (new ++ rest) t s a.first.token
            (take n a.commands) (take n a.behind) steps
            (behind_first (front ++ drop start old_text) t a.first is_first) first_near all_near was chose);
        goes = subst (λ x. GoesOnBehind x (state_at n) (token_at n)) (sym there) goes;
      }

  -- Old rows behind one that is joined are, moved, rows of the edited text, and their commands are chosen there.
  pub record Behind (n : ℕ) (b : State) : Type 0 where
    pub run : Run (edited old_text start end new) t b (drop n a.commands)
        (map (shifted_row end (start + length new)) (drop n a.behind))
    pub chosen : ChosenFrom (rule (edited old_text start end new)) b (drop n a.commands)
        (map (shifted_row end (start + length new)) (drop n a.behind))
    pub lies : AllByRecursion (OfEachPlace (λ place. end ≤ place)) (drop n a.behind)

  pub behind : (n : ℕ) (b : State) → n ≤ length a.behind
      → last_live b.now ≡ Some (shifted_token end (start + length new) (token_at n)) → end ≤ (token_at n).start
      → Alike b.now.tokens (state_at n).now.tokens → Behind n b
  behind n b few last less alike =
      let c = cut n few in
      let before = take end old_text in
      let after = front ++ new in
      let whole : before ++ rest ≡ old_text = take-append-drop end old_text in
      let from : length before ≡ end = length-take-le end old_text edit.ends.0 in
      let to : length after ≡ start + length new =
      length-append front new ∙ ap (λ m. m + length new) (length-take-le start old_text edit.starts.0) in
      let steps = drop_lasting n a.commands lasting in
      let on = goes_on_rows old_text t s (take n a.commands) (take n a.behind) a.first.token
      (take_lasting n a.commands lasting) (behind_first old_text t a.first a.is_first) c.run in
      let on_whole = subst (λ x. GoesOnBehind x (state_at n) (token_at n)) (sym whole) on in
      let was = subst (λ x. Run x t (state_at n) (drop n a.commands) (drop n a.behind)) (sym whole) c.rest_run in
      let chose =
      subst (λ x. ChosenFrom (rule x) (state_at n) (drop n a.commands) (drop n a.behind)) (sym whole) c.rest_chosen in
      let utf8 = subst IsUtf8 (sym whole) u in
      let utf8_rest = IsUtf8-drop old_text end u edit.ends in
      let starts : length before ≤ (token_at n).start = subst (λ m. m ≤ (token_at n).start) (sym from) less in
      let ends : length before ≤ (token_at n).end =
      (let ordered = on.may.lies.ordered in omega (arith, starts, ordered)) in
      let moved_last : last_live b.now ≡ Some (shifted_token (length before) (length after) (token_at n)) =
      last ∙ ap (λ m. Some (shifted_token m (start + length new) (token_at n))) (sym from)
      ∙ ap (λ m. Some (shifted_token (length before) m (token_at n))) (sym to) in
      let run =
      run_taken_over before after rest t (token_at n) (state_at n) b (drop n a.commands) (drop n a.behind) utf8_rest utf8
      v starts on_whole.may.lies on_whole.last_is moved_last steps was in
      let lies =
      run_lies_behind before rest t (token_at n) (state_at n) (drop n a.commands) (drop n a.behind) utf8_rest utf8 starts
      on_whole.may.lies on_whole.last_is steps was in
      let chosen =
      shifted_chosen rule Alike law choose behind_law again_law before after rest t (state_at n) b (token_at n)
      (drop n a.commands) (drop n a.behind) utf8 steps on_whole moved_last ends lies was run alike chose in
      record {
        run =
            subst (λ m. Run (after ++ rest) t b (drop n a.commands) (map (shifted_row m (start + length new))
            (drop n a.behind))) from
            (subst (λ m. Run (after ++ rest) t b (drop n a.commands) (map (shifted_row (length before) m)
            (drop n a.behind))) to run);
        chosen =
            subst (λ m. ChosenFrom (rule (after ++ rest)) b (drop n a.commands) (map (shifted_row m (start + length new))
            (drop n a.behind))) from
            (subst (λ m. ChosenFrom (rule (after ++ rest)) b (drop n a.commands) (map (shifted_row (length before) m)
            (drop n a.behind))) to chosen);
        lies = subst (λ m. AllByRecursion (OfEachPlace (λ place. m ≤ place)) (drop n a.behind)) from lies;
      }

-- Rows up to one, and those behind it, are all.
pub joined_rows : (rule : Rule) → IsRule rule → (text : List ℕ) (t : SourceType) (first : Row)
    (commands more : List Command) (rows later : List Row) → IsRow text t nothing_live None first
    → Run text t (state_after_first first) commands rows → ChosenOn rule text (state_after_first first) commands rows
    → Run text t (on_rows (state_after_first first) commands rows) more later
    → ChosenFrom (rule text) (on_rows (state_after_first first) commands rows) more later
    → AreChosenRows rule text t (first ∷ rows ++ later)
joined_rows rule law text t first commands more rows later is run chosen on_run on_chosen = record {
  first = first;
  behind = rows ++ later;
  commands = commands ++ more;
  rows_are = refl;
  is_first = is;
  run =
      run_glued text t (state_after_first first) commands more rows later
      (on_lasts rule law text (state_after_first first) commands rows chosen) run on_run;
  chosen = chosen_glued rule text (state_after_first first) commands more rows later chosen on_chosen;
}
