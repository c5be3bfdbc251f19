-- Rows that answer commands, one command after the other.
use Rattle.std.proofs.Common.{◌≡◌, ◌≢◌, ℕ, suc, add-one, ◌+◌, ◌<◌, ◌≤◌, Bool, true, false, cond, List, [], ◌∷◌, ◌++◌}
use Rattle.std.proofs.Common.{length, take, drop, get_or, refl, sym, ◌∙◌, ap, subst, arith, Option, Some, None}
use Rattle.std.proofs.Common.{append-nil, append_assoc, count_by}
use Rattle.std.proofs.lemmas.List.{drop_all}
use Rattle.std.proofs.lemmas.Option.{get_or_from_slice_get, slice_get-get_or}
use Rattle.std.proofs.Math.Seq.{drop-cons}
use Rattle.std.specs.List.{AllByRecursion}
use Rattle.std.specs.Prelude.{◌^◌, slice_get, MatchBool, if◌then◌else◌}
use Rattle.std.specs.Str.{IsUtf8}
use Rattle.js_text.specs.declared.source_type.SourceType.{SourceType}
use Rattle.js_session.specs.declared.command.Command.{Command}
use Rattle.js_session.specs.declared.row.Row.{Row}
use Rattle.js_session.specs.Effects.{effect_of, gives_row, closes_mark, opens_mark, is_step, opens_one, closes}
use Rattle.js_session.specs.declared.command.Effect.{Effect}
use Rattle.js_session.specs.declared.command.Effect.TheVariants.{Reads, Peeks, ReLexes, Opens, Rewinds, Commits}
use Rattle.js_session.specs.Faults.{HasMarks}
use Rattle.js_session.specs.Live.{Live, State, outcome_of, with_re_lexed, after_row, after_mark, rewound_state}
use Rattle.js_session.specs.Live.{committed_state, state_after_first, nothing_live, state_after, live}
use Rattle.js_session.specs.Report.{IsRow, Run, AreRows, HasMark, IsSliceOnPlaces, ReportOf, all_collected}
use Rattle.js_session.specs.Session.{SessionState, Begins, AddsRow, Follows, after_command, report_of}
use Rattle.js_session.proofs.FaultLemmas.{count_more}

-- Whatever answers the commands that are left from the state now, answers all commands from the state at first.
pub record Continues (text : List ℕ) (t : SourceType) (start : State) (commands : List Command) (rows : List Row)
    (now : State) (left : List Command) : Type 0 where
  pub run : (more : List Row) → Run text t now left more → Run text t start commands (rows ++ more)
  pub state : (more : List Row) → state_after start commands (rows ++ more) ≡ state_after now left more

pub continues_start : (text : List ℕ) (t : SourceType) (s : State) (commands : List Command)
    → Continues text t s commands [] s commands
continues_start text t s commands = record { run = λ more h. h; state = λ more. refl }

pub run_step : (text : List ℕ) (t : SourceType) (s : State) (c : Command) (left : List Command) (row : Row)
    (more : List Row) → is_step c ≡ true
    → IsRow text t s.now (Some c) row → Run text t (after_row (effect_of c) row s) left more
    → Run text t s (c ∷ left) (row ∷ more)
run_step text t s c left row more e is h = rw e (is, h)

pub state_step : (s : State) (c : Command) (left : List Command) (row : Row) (more : List Row) → is_step c ≡ true
    → state_after s (c ∷ left) (row ∷ more) ≡ state_after (after_row (effect_of c) row s) left more
state_step s c left row more e = rw e refl

pub run_mark : (text : List ℕ) (t : SourceType) (s : State) (c : Command) (left : List Command) (more : List Row)
    → is_step c ≡ false
    → HasMark c s → Run text t (after_mark (effect_of c) s) left more → Run text t s (c ∷ left) more
run_mark text t s c left [] e has h = rw e (has, h)
run_mark text t s c left (row ∷ more) e has h = rw e (has, h)

pub state_mark : (s : State) (c : Command) (left : List Command) (more : List Row) → is_step c ≡ false
    → state_after s (c ∷ left) more ≡ state_after (after_mark (effect_of c) s) left more
state_mark s c left [] e = rw e refl
state_mark s c left (row ∷ more) e = rw e refl

-- a step
pub continues_step : (text : List ℕ) (t : SourceType) (start now : State) (commands left : List Command)
    (rows : List Row) (c : Command) (row : Row) → is_step c ≡ true
    → IsRow text t now.now (Some c) row → Continues text t start commands rows now (c ∷ left)
    → Continues text t start commands (rows ++ row ∷ []) (after_row (effect_of c) row now) left
continues_step text t start now commands left rows c row e is h = record {
  run =
      λ more k. subst (Run text t start commands) (sym (append_assoc rows (row ∷ []) more))
      (h.run (row ∷ more) (run_step text t now c left row more e is k));
  state =
      λ more. ap (state_after start commands) (append_assoc rows (row ∷ []) more) ∙ h.state (row ∷ more)
      ∙ state_step now c left row more e;
}

-- a command that gives no row
pub continues_mark : (text : List ℕ) (t : SourceType) (start now : State) (commands left : List Command)
    (rows : List Row) (c : Command) → is_step c ≡ false
    → HasMark c now → Continues text t start commands rows now (c ∷ left)
    → Continues text t start commands rows (after_mark (effect_of c) now) left
continues_mark text t start now commands left rows c e has h = record {
  run = λ more k. h.run more (run_mark text t now c left more e has k);
  state = λ more. h.state more ∙ state_mark now c left more e;
}

-- after all commands
pub continues_end : (text : List ℕ) (t : SourceType) (start now : State) (commands : List Command) (rows : List Row)
    → Continues text t start commands rows now []
    → Run text t start commands rows × (state_after start commands rows ≡ now)
continues_end text t start now commands rows h = (
  subst (Run text t start commands) (append-nil rows) (h.run [] refl),
  ap (state_after start commands) (sym (append-nil rows)) ∙ h.state [],
)

-- A session that has answered the commands before the index: its rows answer them, and what is left answers the rest.
pub record Progress (text : List ℕ) (t : SourceType) (collects : Bool) (commands : List Command) (index : ℕ)
    (s : SessionState) : Type 0 where
  pub text_is : s.text ≡ text
  pub type_is : s.source_type ≡ t
  pub collects_is : s.collects ≡ collects
  pub row : Row
  pub is_row : IsRow text t nothing_live None row
  pub rows : List Row
  pub rows_are : s.rows ≡ row ∷ rows
  pub continues : Continues text t (state_after_first row) commands rows s.state (drop index commands)
  pub marks : length s.state.marks + count_by closes (take index commands) ≡ count_by opens_one (take index commands)

pub progress_start : (text : List ℕ) (t : SourceType) (collects : Bool) (commands : List Command) (s : SessionState)
    → Begins text t collects s → Progress text t collects commands 0 s
progress_start text t collects commands s b =
    rw b.after (record {
      text_is = refl;
      type_is = refl;
      collects_is = refl;
      row = b.row;
      is_row = b.is_row;
      rows = [];
      rows_are = refl;
      continues = continues_start text t (state_after_first b.row) commands;
      marks = refl;
    })

-- the same, whatever number of places for marks is free
pub progress_reserved : (text : List ℕ) (t : SourceType) (collects : Bool) (commands : List Command) (index : ℕ)
    (old new : SessionState) → new ≡ record old { spare = new.spare } → Progress text t collects commands index old
    → Progress text t collects commands index new
progress_reserved text t collects commands index old new rest p =
    rw rest (record {
      text_is = p.text_is;
      type_is = p.type_is;
      collects_is = p.collects_is;
      row = p.row;
      is_row = p.is_row;
      rows = p.rows;
      rows_are = p.rows_are;
      continues = p.continues;
      marks = p.marks;
    })

-- a command that closes a mark finds one
pub has_mark : (text : List ℕ) (t : SourceType) (collects : Bool) (commands : List Command) (index : ℕ)
    (s : SessionState) (c : Command) → Progress text t collects commands index s
    → slice_get commands index ≡ Some c → HasMarks commands → HasMark c s.state
has_mark text t collects commands index s c p at marks = λ is none.
    let zero_open : length s.state.marks ≡ 0 = ap length none in
    marks index (record { command = c; here = at; is_close = is; none_open = sym (omega (arith, zero_open, p.marks)) })

-- one mark less
marks_less : (f : Live → List Live → State) (now : Live) (ms : List Live) → ms ≢ []
    → ((now m : Live) (ms : List Live) → (f now (m ∷ ms)).marks ≡ ms)
    → length (f now ms).marks + 1 ≡ length ms + 0
marks_less f now [] some e = absurd (some refl)
marks_less f now (m ∷ ms) some e = omega (arith, ap length (e now m ms))

pub marks_more : (effect : Effect) (s : State) → gives_row effect ≡ false → (closes_mark effect ≡ true → s.marks ≢ [])
    → length (after_mark effect s).marks + cond (closes_mark effect) 1 0 ≡ length s.marks + cond (opens_mark effect) 1 0
marks_more (Reads goal) s e has = absurd (cc)
marks_more (Peeks goal) s e has = absurd (cc)
marks_more (ReLexes goal) s e has = absurd (cc)
marks_more Opens s e has = omega arith
marks_more Rewinds s e has = marks_less rewound_state s.now s.marks (has refl) (λ now m ms. refl)
marks_more Commits s e has = marks_less committed_state s.now s.marks (has refl) (λ now m ms. refl)

re_lex_marks : (taken : Bool) (now : Live) (s : State)
    → length (if taken then record s { now = now } else s).marks ≡ length s.marks
re_lex_marks true now s = refl
re_lex_marks false now s = refl

pub same_marks : (effect : Effect) (row : Row) (s : State) → gives_row effect ≡ true
    → length (after_row effect row s).marks + cond (closes_mark effect) 1 0
    ≡ length s.marks + cond (opens_mark effect) 1 0
same_marks (Reads goal) row s e = refl
same_marks (Peeks goal) row s e = refl
same_marks (ReLexes goal) row s e = ap (λ n. n + 0) (re_lex_marks row.taken (with_re_lexed s.now (outcome_of row)) s)
same_marks Opens row s e = absurd (cc)
same_marks Rewinds row s e = absurd (cc)
same_marks Commits row s e = absurd (cc)

-- the command at the index is the first of what is left
pub drop_at : (commands : List Command) (index : ℕ) (c : Command) → index < length commands
    → get_or commands index c ≡ c → drop index commands ≡ c ∷ drop (index + 1) commands
drop_at commands index c within at =
    rw add-one (drop-cons commands index c within ∙ ap (λ x. x ∷ drop (suc index) commands) at)

progress_step : (text : List ℕ) (t : SourceType) (collects : Bool) (commands : List Command) (index : ℕ)
    (old new : SessionState) (c : Command) → Progress text t collects commands index old
    → index < length commands → get_or commands index c ≡ c → is_step c ≡ true → AddsRow c old new
    → Progress text t collects commands (index + 1) new
progress_step text t collects commands index old new c p within at e a =
    let left : drop index commands ≡ c ∷ drop (index + 1) commands = drop_at commands index c within at in
    let is : IsRow text t old.state.now (Some c) a.row = rw (p.text_is, p.type_is) at a.is_row in
    let ahead : Continues text t (state_after_first p.row) commands p.rows old.state (c ∷ drop (index + 1) commands) =
    subst (Continues text t (state_after_first p.row) commands p.rows old.state) left p.continues in
    let opened : count_by opens_one (take (index + 1) commands)
    ≡ count_by opens_one (take index commands) + cond (opens_one c) 1 0 =
    count_more opens_one commands index c within
    ∙ ap (λ x. count_by opens_one (take index commands) + cond (opens_one x) 1 0) at in
    let closed : count_by closes (take (index + 1) commands)
    ≡ count_by closes (take index commands) + cond (closes c) 1 0 =
    count_more closes commands index c within
    ∙ ap (λ x. count_by closes (take index commands) + cond (closes x) 1 0) at in
    rw a.after (record {
      text_is = p.text_is;
      type_is = p.type_is;
      collects_is = p.collects_is;
      row = p.row;
      is_row = p.is_row;
      rows = p.rows ++ a.row ∷ [];
      rows_are = ap (λ rs. rs ++ a.row ∷ []) p.rows_are;
      continues =
          continues_step text t (state_after_first p.row) old.state commands
          (drop (index + 1) commands) p.rows c a.row e is ahead;
      marks = omega (arith, p.marks, opened, closed, same_marks (effect_of c) a.row old.state e);
    })

progress_mark : (text : List ℕ) (t : SourceType) (collects : Bool) (commands : List Command) (index : ℕ)
    (old new : SessionState) (c : Command) → Progress text t collects commands index old
    → index < length commands → get_or commands index c ≡ c → is_step c ≡ false → HasMark c old.state
    → new ≡ after_command c old → Progress text t collects commands (index + 1) new
progress_mark text t collects commands index old new c p within at e has after =
    let left : drop index commands ≡ c ∷ drop (index + 1) commands = drop_at commands index c within at in
    let ahead : Continues text t (state_after_first p.row) commands p.rows old.state (c ∷ drop (index + 1) commands) =
    subst (Continues text t (state_after_first p.row) commands p.rows old.state) left p.continues in
    let opened : count_by opens_one (take (index + 1) commands)
    ≡ count_by opens_one (take index commands) + cond (opens_one c) 1 0 =
    count_more opens_one commands index c within
    ∙ ap (λ x. count_by opens_one (take index commands) + cond (opens_one x) 1 0) at in
    let closed : count_by closes (take (index + 1) commands)
    ≡ count_by closes (take index commands) + cond (closes c) 1 0 =
    count_more closes commands index c within
    ∙ ap (λ x. count_by closes (take index commands) + cond (closes x) 1 0) at in
    rw after (record {
      text_is = p.text_is;
      type_is = p.type_is;
      collects_is = p.collects_is;
      row = p.row;
      is_row = p.is_row;
      rows = p.rows;
      rows_are = p.rows_are;
      continues =
          continues_mark text t (state_after_first p.row) old.state commands
          (drop (index + 1) commands) p.rows c e has ahead;
      marks = omega (arith, p.marks, opened, closed, marks_more (effect_of c) old.state e has);
    })

-- one command more
progress_by : (b : Bool) (text : List ℕ) (t : SourceType) (collects : Bool) (commands : List Command) (index : ℕ)
    (old new : SessionState) (c : Command) → is_step c ≡ b
    → Progress text t collects commands index old → index < length commands → get_or commands index c ≡ c
    → HasMark c old.state → MatchBool b (AddsRow c old new) (new ≡ after_command c old)
    → Progress text t collects commands (index + 1) new
progress_by true text t collects commands index old new c e p within at has f =
    progress_step text t collects commands index old new c p within at e f
progress_by false text t collects commands index old new c e p within at has f =
    progress_mark text t collects commands index old new c p within at e has f

pub progress_follow : (text : List ℕ) (t : SourceType) (collects : Bool) (commands : List Command) (index : ℕ)
    (old new : SessionState) (c : Command) → Progress text t collects commands index old
    → index < length commands → get_or commands index c ≡ c → HasMark c old.state → Follows c old new
    → Progress text t collects commands (index + 1) new
progress_follow text t collects commands index old new c p within at has f =
    progress_by (is_step c) text t collects commands index old new c refl p within at has f

-- the command at an index, whatever stands for one past the end
pub command_at : (commands : List Command) (index : ℕ) (d : Command) → index < length commands
    → (slice_get commands index ≡ Some (get_or commands index d))
    × (get_or commands index (get_or commands index d) ≡ get_or commands index d)
command_at commands index d within =
    let there = slice_get-get_or commands index d within in
    (there, get_or_from_slice_get commands index (get_or commands index d) (get_or commands index d) there)

-- the report after all commands
pub progress_end : (text : List ℕ) (t : SourceType) (collects : Bool) (commands : List Command) (index : ℕ)
    (s : SessionState) → IsUtf8 text → length text < 2 ^ 32
    → length commands ≤ index → Progress text t collects commands index s
    → ReportOf text t collects commands (report_of s)
progress_end text t collects commands index s utf8 short whole p =
    let none : drop index commands ≡ [] = drop_all index commands whole in
    let ended =
    continues_end text t (state_after_first p.row) s.state commands p.rows
    (subst (Continues text t (state_after_first p.row) commands p.rows s.state) none p.continues) in
    record {
      utf8 = utf8;
      short = short;
      rows = subst (AreRows text t commands) (sym p.rows_are) (p.is_row, ended.0);
      lists = sym (ap (live commands) p.rows_are ∙ ap (λ x. x.now) ended.1);
      collected_are = ap (λ c. all_collected c s.state.now.tokens) p.collects_is;
    }

-- the values of rows lie on places
row_slice : (text : List ℕ) (t : SourceType) (now : Live) (command : Option Command) (row : Row)
    → IsRow text t now command row → IsSliceOnPlaces text row.value
row_slice text t now command row is = is.places.value

run_slices : (text : List ℕ) (t : SourceType) (s : State) (commands : List Command) (rows : List Row)
    → Run text t s commands rows → AllByRecursion (λ row. IsSliceOnPlaces text row.value) rows
run_slices text t s [] rows h = subst (AllByRecursion (λ row. IsSliceOnPlaces text row.value)) (sym h) tt
run_slices text t s (c ∷ cs) [] h = tt
run_slices text t s (c ∷ cs) (row ∷ rows) h =
    by_step (is_step c) (run_slices text t (after_row (effect_of c) row s) cs rows)
    (run_slices text t (after_mark (effect_of c) s) cs (row ∷ rows)) h
  where
    by_step : (step : Bool)
        → (Run text t (after_row (effect_of c) row s) cs rows
        → AllByRecursion (λ row. IsSliceOnPlaces text row.value) rows)
        → (Run text t (after_mark (effect_of c) s) cs (row ∷ rows)
        → AllByRecursion (λ row. IsSliceOnPlaces text row.value) (row ∷ rows))
        → MatchBool step (IsRow text t s.now (Some c) row × Run text t (after_row (effect_of c) row s) cs rows)
        (HasMark c s × Run text t (after_mark (effect_of c) s) cs (row ∷ rows))
        → AllByRecursion (λ row. IsSliceOnPlaces text row.value) (row ∷ rows)
    by_step true rest all h = (row_slice text t s.now (Some c) row h.0, rest h.1)
    by_step false rest all h = all h.1

pub rows_slices : (text : List ℕ) (t : SourceType) (commands : List Command) (rows : List Row)
    → AreRows text t commands rows → AllByRecursion (λ row. IsSliceOnPlaces text row.value) rows
rows_slices text t commands [] h = tt
rows_slices text t commands (row ∷ rows) h =
    (row_slice text t nothing_live None row h.0, run_slices text t (state_after_first row) commands rows h.1)
