-- Sessions that have run commands, one call after the other.
use Rattle.std.proofs.Common.{◌≡◌, ◌<◌, ◌^◌, ℕ, Bool, true, false, List, [], ◌∷◌, ◌++◌, length, refl, sym, ◌∙◌, ap}
use Rattle.std.proofs.Common.{subst}
use Rattle.std.proofs.Common.{Some, append-nil, append_assoc}
use Rattle.std.specs.List.{AllByRecursion}
use Rattle.std.specs.Prelude.{MatchBool}
use Rattle.std.specs.Str.{IsUtf8}
use Rattle.js_text.specs.declared.source_type.SourceType.{SourceType}
use Rattle.js_session.specs.declared.command.Command.{Command}
use Rattle.js_session.specs.declared.row.Row.{Row}
use Rattle.js_session.specs.Effects.{effect_of, is_step}
use Rattle.js_session.specs.Live.{State, after_row, after_mark, state_after, state_after_first, live}
use Rattle.js_session.specs.Report.{IsRow, Run, AreRows, HasMark, LiesOnPlaces, IsSliceOnPlaces, ReportOf}
use Rattle.js_session.specs.Report.{all_collected}
use Rattle.js_kind.specs.TokenParts.{TokenParts}
use Rattle.js_session.specs.Session.{SessionState, Begins, AddsRow, Follows, HasRun, HasRunFrom, RunsFrom}
use Rattle.js_session.specs.Session.{after_command, report_of, resumed, state_behind}
use Rattle.js_session.proofs.RunLemmas.{run_step, run_mark, state_step, state_mark}

-- What answers more commands from the state behind some, answers all from the state before them.
pub record RunsOn (text : List ℕ) (t : SourceType) (s : State) (commands more : List Command) (rows : List Row)
    (later : List Row) : Type 0 where
  pub run : Run text t (state_after s commands rows) more later → Run text t s (commands ++ more) (rows ++ later)
  pub state : state_after s (commands ++ more) (rows ++ later) ≡ state_after (state_after s commands rows) more later

pub runs_on : (text : List ℕ) (t : SourceType) (s : State) (commands more : List Command) (rows later : List Row)
    → Run text t s commands rows → RunsOn text t s commands more rows later
runs_on text t s [] more rows later none =
    subst (λ rs. RunsOn text t s [] more rs later) (sym none) (record { run = λ h. h; state = refl })
runs_on text t s (c ∷ cs) more [] later h =
    by_step (is_step c) refl (runs_on text t (after_mark (effect_of c) s) cs more [] later) h
  where
    by_step : (b : Bool) → is_step c ≡ b
        → (Run text t (after_mark (effect_of c) s) cs [] → RunsOn text t (after_mark (effect_of c) s) cs more [] later)
        → MatchBool b ⊥ (HasMark c s × Run text t (after_mark (effect_of c) s) cs [])
        → RunsOn text t s (c ∷ cs) more [] later
    by_step true e rest h = absurd h
    by_step false e rest h =
        let on = rest h.1 in
        let behind = state_mark s c cs [] e in
        record {
          run =
              λ k. run_mark text t s c (cs ++ more) later e h.0
              (on.run (subst (λ x. Run text t x more later) behind k));
          state =
              state_mark s c (cs ++ more) later e ∙ on.state
              ∙ ap (λ x. state_after x more later) (sym behind);
        }
runs_on text t s (c ∷ cs) more (row ∷ rows) later h =
    by_step (is_step c) refl (runs_on text t (after_row (effect_of c) row s) cs more rows later)
    (runs_on text t (after_mark (effect_of c) s) cs more (row ∷ rows) later) h
  where
    by_step : (b : Bool) → is_step c ≡ b
        → (Run text t (after_row (effect_of c) row s) cs rows
        → RunsOn text t (after_row (effect_of c) row s) cs more rows later)
        → (Run text t (after_mark (effect_of c) s) cs (row ∷ rows)
        → RunsOn text t (after_mark (effect_of c) s) cs more (row ∷ rows) later)
        → MatchBool b (IsRow text t s.now (Some c) row × Run text t (after_row (effect_of c) row s) cs rows)
        (HasMark c s × Run text t (after_mark (effect_of c) s) cs (row ∷ rows))
        → RunsOn text t s (c ∷ cs) more (row ∷ rows) later
    by_step true e rest all h =
        let on = rest h.1 in
        let behind = state_step s c cs row rows e in
        record {
          run =
              λ k. run_step text t s c (cs ++ more) row (rows ++ later) e h.0
              (on.run (subst (λ x. Run text t x more later) behind k));
          state =
              state_step s c (cs ++ more) row (rows ++ later) e ∙ on.state
              ∙ ap (λ x. state_after x more later) (sym behind);
        }
    by_step false e rest all h =
        let on = all h.1 in
        let behind = state_mark s c cs (row ∷ rows) e in
        record {
          run =
              λ k. run_mark text t s c (cs ++ more) ((row ∷ rows) ++ later) e h.0
              (on.run (subst (λ x. Run text t x more later) behind k));
          state =
              state_mark s c (cs ++ more) ((row ∷ rows) ++ later) e ∙ on.state
              ∙ ap (λ x. state_after x more later) (sym behind);
        }

pub run_begins : (text : List ℕ) (t : SourceType) (collects : Bool) (s : SessionState) → Begins text t collects s
    → HasRun text t collects [] s
run_begins text t collects s b = record {
  first = b.row;
  is_first = b.is_row;
  runs = record {
    text_is = ap (λ (x : SessionState). x.text) b.after;
    type_is = ap (λ (x : SessionState). x.source_type) b.after;
    collects_is = ap (λ (x : SessionState). x.collects) b.after;
    rows = [];
    rows_are = ap (λ (x : SessionState). x.rows) b.after;
    answers = refl;
    state = ap (λ (x : SessionState). x.state) b.after;
  };
}

pub run_resumed : (text : List ℕ) (t : SourceType) (collects : Bool) (token : TokenParts)
    → HasRunFrom text t collects token [] (resumed text t collects token)
run_resumed text t collects token = record {
  text_is = refl;
  type_is = refl;
  collects_is = refl;
  rows = [];
  rows_are = refl;
  answers = refl;
  state = refl;
}

-- the same, whatever number of places for marks is free
runs_reserved : (text : List ℕ) (t : SourceType) (collects : Bool) (start : State) (before : List Row)
    (commands : List Command) (s : SessionState) (spare : ℕ) → RunsFrom text t collects start before commands s
    → RunsFrom text t collects start before commands (record s { spare = spare })
runs_reserved text t collects start before commands s spare h = record {
  text_is = h.text_is;
  type_is = h.type_is;
  collects_is = h.collects_is;
  rows = h.rows;
  rows_are = h.rows_are;
  answers = h.answers;
  state = h.state;
}

pub run_reserved : (text : List ℕ) (t : SourceType) (collects : Bool) (commands : List Command) (s : SessionState)
    (spare : ℕ) → HasRun text t collects commands s → HasRun text t collects commands (record s { spare = spare })
run_reserved text t collects commands s spare h = record {
  first = h.first;
  is_first = h.is_first;
  runs =
      runs_reserved text t collects (state_after_first h.first) (h.first ∷ []) commands s spare
      h.runs;
}

pub run_reserved_from : (text : List ℕ) (t : SourceType) (collects : Bool) (token : TokenParts)
    (commands : List Command) (s : SessionState) (spare : ℕ) → HasRunFrom text t collects token commands s
    → HasRunFrom text t collects token commands (record s { spare = spare })
run_reserved_from text t collects token commands s spare h =
    runs_reserved text t collects (state_behind token) [] commands s spare h

-- one step more
run_adds : (text : List ℕ) (t : SourceType) (collects : Bool) (start : State) (before : List Row)
    (commands : List Command) (c : Command) (old new : SessionState)
    → RunsFrom text t collects start before commands old → is_step c ≡ true → AddsRow c old new
    → RunsFrom text t collects start before (commands ++ c ∷ []) new
run_adds text t collects start before commands c old new h e a =
    let on = runs_on text t start commands (c ∷ []) h.rows (a.row ∷ []) h.answers in
    let is : IsRow text t (state_after start commands h.rows).now (Some c) a.row =
    subst (λ (s : State). IsRow text t s.now (Some c) a.row) h.state (rw (h.text_is, h.type_is) at a.is_row) in
    record {
      text_is = ap (λ (x : SessionState). x.text) a.after ∙ h.text_is;
      type_is = ap (λ (x : SessionState). x.source_type) a.after ∙ h.type_is;
      collects_is = ap (λ (x : SessionState). x.collects) a.after ∙ h.collects_is;
      rows = h.rows ++ a.row ∷ [];
      rows_are =
          ap (λ (x : SessionState). x.rows) a.after ∙ ap (λ rs. rs ++ a.row ∷ []) h.rows_are
          ∙ append_assoc before h.rows (a.row ∷ []);
      answers = on.run (run_step text t (state_after start commands h.rows) c [] a.row [] e is refl);
      state =
          ap (λ (x : SessionState). x.state) a.after
          ∙ ap (after_row (effect_of c) a.row) h.state
          ∙ sym (on.state ∙ state_step (state_after start commands h.rows) c [] a.row [] e);
    }

-- one command more that gives no row
run_marks : (text : List ℕ) (t : SourceType) (collects : Bool) (start : State) (before : List Row)
    (commands : List Command) (c : Command) (old new : SessionState)
    → RunsFrom text t collects start before commands old → is_step c ≡ false → HasMark c old.state
    → new ≡ after_command c old → RunsFrom text t collects start before (commands ++ c ∷ []) new
run_marks text t collects start before commands c old new h e has after =
    let on = runs_on text t start commands (c ∷ []) h.rows [] h.answers in
    let marked : HasMark c (state_after start commands h.rows) = subst (HasMark c) h.state has in
    let all = append-nil h.rows in
    record {
      text_is = ap (λ (x : SessionState). x.text) after ∙ h.text_is;
      type_is = ap (λ (x : SessionState). x.source_type) after ∙ h.type_is;
      collects_is = ap (λ (x : SessionState). x.collects) after ∙ h.collects_is;
      rows = h.rows;
      rows_are = ap (λ (x : SessionState). x.rows) after ∙ h.rows_are;
      answers =
          subst (Run text t start (commands ++ c ∷ [])) all
          (on.run (run_mark text t (state_after start commands h.rows) c [] [] e marked refl));
      state =
          ap (λ (x : SessionState). x.state) after
          ∙ ap (after_mark (effect_of c)) h.state
          ∙ sym (on.state ∙ state_mark (state_after start commands h.rows) c [] [] e)
          ∙ ap (state_after start (commands ++ c ∷ [])) all;
    }

run_by : (b : Bool) (text : List ℕ) (t : SourceType) (collects : Bool) (start : State) (before : List Row)
    (commands : List Command) (c : Command) (old new : SessionState) → is_step c ≡ b
    → RunsFrom text t collects start before commands old → HasMark c old.state
    → MatchBool b (AddsRow c old new) (new ≡ after_command c old)
    → RunsFrom text t collects start before (commands ++ c ∷ []) new
run_by true text t collects start before commands c old new e h has f =
    run_adds text t collects start before commands c old new h e f
run_by false text t collects start before commands c old new e h has f =
    run_marks text t collects start before commands c old new h e has f

-- one command more, of any kind
pub run_on : (text : List ℕ) (t : SourceType) (collects : Bool) (start : State) (before : List Row)
    (commands : List Command) (c : Command) (old new : SessionState)
    → RunsFrom text t collects start before commands old → HasMark c old.state → Follows c old new
    → RunsFrom text t collects start before (commands ++ c ∷ []) new
run_on text t collects start before commands c old new h has f =
    run_by (is_step c) text t collects start before commands c old new refl h has f

pub run_follows : (text : List ℕ) (t : SourceType) (collects : Bool) (commands : List Command) (c : Command)
    (old new : SessionState) → HasRun text t collects commands old → HasMark c old.state → Follows c old new
    → HasRun text t collects (commands ++ c ∷ []) new
run_follows text t collects commands c old new h has f = record {
  first = h.first;
  is_first = h.is_first;
  runs = run_on text t collects (state_after_first h.first) (h.first ∷ []) commands c old new h.runs has f;
}

pub run_reports : (text : List ℕ) (t : SourceType) (collects : Bool) (commands : List Command) (s : SessionState)
    → IsUtf8 text → length text < 2 ^ 32 → HasRun text t collects commands s
    → ReportOf text t collects commands (report_of s)
run_reports text t collects commands s utf8 short h = record {
  utf8 = utf8;
  short = short;
  rows = subst (AreRows text t commands) (sym h.runs.rows_are) (h.is_first, h.runs.answers);
  lists = ap (λ (x : State). x.now) h.runs.state ∙ ap (live commands) (sym h.runs.rows_are);
  collected_are = ap (λ b. all_collected b s.state.now.tokens) h.runs.collects_is;
}

-- the values of rows that lie on places
pub slices_of : (text : List ℕ) (rows : List Row) → AllByRecursion (LiesOnPlaces text) rows
    → AllByRecursion (λ row. IsSliceOnPlaces text row.value) rows
slices_of text [] h = tt
slices_of text (row ∷ rows) h = (h.0.value, slices_of text rows h.1)
