-- What the calls of a session make of its state.
use Rattle.std.proofs.Common.{◌≡◌, ℕ, ◌+◌, ◌-◌, ◌<◌, Bool, true, false, List, [], ◌∷◌, ◌++◌, length, take, refl, sym}
use Rattle.std.proofs.Common.{◌∙◌, ap, subst, arith, Option, Some, None, Result, Ok, Err}
use Rattle.std.proofs.lemmas.List.{reverse-append, length-reverse}
use Rattle.std.specs.List.{AllByRecursion}
use Rattle.std.specs.Prelude.{reverse, OnOk, OnErr, IsSome, ◌↔◌, option_to_list, MatchBool}
use Rattle.js_text.specs.declared.source_type.SourceType.{SourceType}
use Rattle.js_text.specs.Lists.{with_last}
use Rattle.js_grammar.specs.declared.goal.Goal.{Goal}
use Rattle.js_grammar.specs.Goals.{GoalReads}
use Rattle.js_grammar.specs.Outcome.{Outcome}
use Rattle.js_grammar.specs.declared.goal.Goal.TheVariants.{First, Next as NextGoal}
use Rattle.js_lexer.specs.Lexer.{LexerState, IsRestored, CanRewind, GoesOnFrom, IsOnPlaces, after_outcome}
use Rattle.js_lexer.specs.Lexer.{checkpoint_of, fresh, token_or_default, put_back, after_re_lex}
use Rattle.js_session.specs.declared.command.Command.{Command}
use Rattle.js_session.specs.declared.command.Command.TheVariants.{Peek, Mark, Rewind, Commit}
use Rattle.js_session.specs.declared.mark.SessionMark.{SessionMark}
use Rattle.js_session.specs.declared.row.Row.{Row}
use Rattle.js_session.specs.Live.{Live, nothing_live, with_outcome, with_re_lexed, outcome_of, last_live, after_mark}
use Rattle.js_session.specs.Effects.{effect_of}
use Rattle.js_session.specs.declared.command.Effect.TheVariants.{Reads, ReLexes}
use Rattle.js_session.proofs.AgainLemmas.{fits_some, re_lexed_collected, from_any_place}
use Rattle.js_session.specs.Marks.{live_now, front, fronts, state_of, lexer_behind, lexer_at, IsAlike}
use Rattle.js_session.specs.Marks.{AreMarks, IsInOrder}
use Rattle.js_grammar.specs.ReLexed.{fits}
use Rattle.js_session.specs.Report.{LiesOnPlaces, IsRow, IsOfEffect}
use Rattle.js_session.specs.RowReader.{RowReaderState, AddsLive, AddsPeek, IsUndone, IsMarkOf, GoesToMark}
use Rattle.js_session.specs.RowReader.{ReadsRowAgain, AddsAgain, AddsNotTaken, not_taken}
use Rattle.js_session.specs.Session.{SessionState, AddsRow, Begins, LieOnPlaces, after_command}
use Rattle.js_session.proofs.LexerLemmas.{goes_on-restored, goes_on-alike, goes_on-trans, alike-restored, alike-sym}
use Rattle.js_session.proofs.LexerLemmas.{can_rewind-on, restored-refl}
use Rattle.js_session.proofs.LiveLemmas.{same_live, replaced, read_behind, read_again_behind, all-push, IsReplaced}
use Rattle.js_session.proofs.MarkLemmas.{marks-outcome, fronts-outcome, marks-commit, length-fronts, front_all, none_at}
use Rattle.js_session.proofs.MarkLemmas.{all-put_back, all-with_last, marks-re_lexed, fronts-re_lexed}
use Rattle.js_session.proofs.ReadLemmas.{read_is_row}

-- how contracts see a session of these parts
abbrev pub seen : RowReaderState → List SessionMark → ℕ → SessionState
seen r marks spare = record {
  text = r.lexer.text;
  source_type = r.lexer.source_type;
  collects = r.lexer.collects;
  rows = r.rows;
  state = state_of (live_now r) marks;
  spare = spare;
}

at_lexer : (P : List ℕ → SourceType → Bool → Type 0) (text : List ℕ) (t : SourceType) (c : Bool) (r : RowReaderState)
    → r.lexer.text ≡ text → r.lexer.source_type ≡ t → r.lexer.collects ≡ c
    → P text t c → P r.lexer.text r.lexer.source_type r.lexer.collects
at_lexer P text t c r texts types collects p =
    subst (λ x. P x r.lexer.source_type r.lexer.collects) (sym texts)
    (subst (λ y. P text y r.lexer.collects) (sym types) (subst (λ z. P text t z) (sym collects) p))

-- a session is in order over the text of an earlier lexer
order : (text : List ℕ) (t : SourceType) (c : Bool) (r : RowReaderState) (marks : List SessionMark)
    → r.lexer.text ≡ text → r.lexer.source_type ≡ t → r.lexer.collects ≡ c
    → IsAlike (lexer_behind text t c (live_now r)) r.lexer → AreMarks text t c (live_now r) marks
    → AllByRecursion (LiesOnPlaces text) r.rows
    → AllByRecursion (IsOnPlaces text) r.tokens → IsInOrder r marks
order text t c r marks texts types collects behind are rows tokens = record {
  behind =
      at_lexer (λ x y z. IsAlike (lexer_behind x y z (live_now r)) r.lexer) text t c r texts types collects behind;
  are_marks = at_lexer (λ x y z. AreMarks x y z (live_now r) marks) text t c r texts types collects are;
  rows_lie = subst (λ x. AllByRecursion (LiesOnPlaces x) r.rows) (sym texts) rows;
  tokens_lie = subst (λ x. AllByRecursion (IsOnPlaces x) r.tokens) (sym texts) tokens;
}

-- rows and live tokens of a session that is in order lie on places
pub in_order_lies : (r : RowReaderState) (marks order : List SessionMark) (spare : ℕ) → IsInOrder r order
    → LieOnPlaces (seen r marks spare)
in_order_lies r marks order spare h = record { rows = h.rows_lie; tokens = h.tokens_lie }

-- what is live once a row was added
added_restored : (goal : Goal) (command : Option Command) (old new : RowReaderState)
    → (a : AddsLive goal command old new) → IsRestored (after_outcome goal old.lexer (outcome_of a.row)) new.lexer
added_restored goal command old new a =
    subst (λ o. IsRestored (after_outcome goal old.lexer o) new.lexer) (sym a.reads.outcome_is) a.reads.reads.after

live_added : (goal : Goal) (command : Option Command) (old new : RowReaderState) → (a : AddsLive goal command old new)
    → live_now new ≡ with_outcome (live_now old) (outcome_of a.row)
live_added goal command old new a =
    same_live (live_now new) (with_outcome (live_now old) (outcome_of a.row)) a.tokens
    (added_restored goal command old new a).findings

-- a row was added, and its token is live
pub order_added : (goal : Goal) (command : Option Command) (old new : RowReaderState) (marks : List SessionMark)
    → IsInOrder old marks → AddsLive goal command old new → IsInOrder new marks
order_added goal command old new marks h a =
    let text = old.lexer.text in
    let t = old.lexer.source_type in
    let c = old.lexer.collects in
    let after = added_restored goal command old new a in
    let live = live_added goal command old new a in
    order text t c new marks after.text after.source_type after.collects
    (subst (λ l. IsAlike (lexer_behind text t c l) new.lexer) (sym live)
    (read_behind text t c goal (live_now old) old.lexer new.lexer (outcome_of a.row) h.behind after))
    (subst (λ l. AreMarks text t c l marks) (sym live)
    (marks-outcome text t c (live_now old) (outcome_of a.row) marks h.are_marks))
    (subst (AllByRecursion (LiesOnPlaces text)) (sym a.rows)
    (all-push (LiesOnPlaces text) old.rows a.row h.rows_lie a.reads.places))
    (subst (AllByRecursion (IsOnPlaces text)) (sym a.tokens)
    (all-push (IsOnPlaces text) old.tokens a.row.token h.tokens_lie a.reads.places.token))

-- A first row was read by a lexer that had read nothing, and added.
pub first_added : (text : List ℕ) (t : SourceType) (collects : Bool) (old new : RowReaderState)
    → old ≡ record { lexer = fresh text t collects; rows = []; tokens = [] } → AddsLive First None old new
    → Begins text t collects (seen new [] 0)
first_added text t collects old new e a =
    on (subst (λ o. AddsLive First None o new) e a)
  where
    start : RowReaderState
    start = record { lexer = fresh text t collects; rows = []; tokens = [] }

    alike : IsAlike (lexer_behind text t collects nothing_live) start.lexer
    alike = record {
      text = refl;
      source_type = refl;
      collects = refl;
      place = refl;
      last = refl;
      tokens = refl;
      findings = refl;
    }

    on : AddsLive First None start new → Begins text t collects (seen new [] 0)
    on b =
        let after = added_restored First None start new b in
        let live = live_added First None start new b in
        record {
          row = b.row;
          is_row = read_is_row First None start.lexer new.lexer nothing_live b.row alike b.reads (λ is. is);
          after = rw (after.text, after.source_type, after.collects, b.rows, live) refl;
        }

pub on_adds_row : (goal : Goal) (command : Command) (old new : RowReaderState) (ms : List SessionMark) (spare : ℕ)
    → effect_of command ≡ Reads goal → IsInOrder old (reverse ms) → AddsLive goal (Some command) old new
    → AddsRow command (seen old ms spare) (seen new ms spare)
on_adds_row goal command old new ms spare effect h a =
    let after = added_restored goal (Some command) old new a in
    let live = live_added goal (Some command) old new a in
    let marks =
    fronts-outcome old.lexer.text old.lexer.source_type old.lexer.collects (live_now old) (outcome_of a.row)
    (reverse ms) h.are_marks in
    record {
      row = a.row;
      is_row =
          read_is_row goal (Some command) old.lexer new.lexer (live_now old) a.row h.behind a.reads
          (λ is. subst (λ e. IsOfEffect old.lexer.text old.lexer.source_type (live_now old) e a.row) (sym effect) is);
      after = rw (after.text, after.source_type, after.collects, a.rows, live, marks, effect) refl;
    }

-- the last live token was read again
pub record IsReLexedFrom (goal : Goal) (old : RowReaderState) (o : Outcome) : Type 0 where
  pub fits : fits old.lexer.text goal (token_or_default old.lexer.last) ≡ true
  pub reads : GoalReads old.lexer.text old.lexer.source_type goal old.lexer.last old.lexer.place o

is_replaced : (goal : Goal) (old : RowReaderState) (marks : List SessionMark) (o : Outcome) → IsInOrder old marks
    → IsReLexedFrom goal old o → IsReplaced (live_now old) o
is_replaced goal old marks o h r =
    let found = fits_some old.lexer.text goal old.lexer.last r.fits in
    record {
      last = found.0;
      is_last = sym h.behind.last ∙ found.1;
      was_collected = found.2;
      is_collected =
          re_lexed_collected old.lexer.text old.lexer.source_type goal old.lexer.last old.lexer.place o r.fits r.reads;
    }

again_from : (goal : Goal) (command : Option Command) (old new : RowReaderState)
    → fits old.lexer.text goal (token_or_default old.lexer.last) ≡ true → (a : AddsAgain goal command old new)
    → IsReLexedFrom goal old (outcome_of a.row)
again_from goal command old new fit a = record { fits = fit; reads = rw a.reads.outcome_is a.reads.reads.reads.reads }

-- what is live once a row was read again
again_restored : (goal : Goal) (command : Option Command) (old new : RowReaderState)
    → (a : AddsAgain goal command old new) → IsRestored (after_re_lex old.lexer (outcome_of a.row)) new.lexer
again_restored goal command old new a =
    subst (λ o. IsRestored (after_re_lex old.lexer o) new.lexer) (sym a.reads.outcome_is) a.reads.reads.after

live_again : (goal : Goal) (command : Option Command) (old new : RowReaderState)
    → (a : AddsAgain goal command old new) → live_now new ≡ with_re_lexed (live_now old) (outcome_of a.row)
live_again goal command old new a =
    same_live (live_now new) (with_re_lexed (live_now old) (outcome_of a.row)) a.tokens
    (again_restored goal command old new a).findings

-- a row was read again, and its token is live in the place of the last one
order_again : (goal : Goal) (command : Option Command) (old new : RowReaderState) (marks : List SessionMark)
    → fits old.lexer.text goal (token_or_default old.lexer.last) ≡ true → IsInOrder old marks
    → AddsAgain goal command old new
    → IsInOrder new marks
order_again goal command old new marks fit h a =
    let text = old.lexer.text in
    let t = old.lexer.source_type in
    let c = old.lexer.collects in
    let o = outcome_of a.row in
    let after = again_restored goal command old new a in
    let live = live_again goal command old new a in
    let replaced = is_replaced goal old marks o h (again_from goal command old new fit a) in
    order text t c new marks after.text after.source_type after.collects
    (subst (λ l. IsAlike (lexer_behind text t c l) new.lexer) (sym live)
    (read_again_behind text t c (live_now old) old.lexer new.lexer o replaced h.behind after))
    (subst (λ l. AreMarks text t c l marks) (sym live)
    (marks-re_lexed text t c (live_now old) o marks replaced h.are_marks))
    (subst (AllByRecursion (LiesOnPlaces text)) (sym a.rows)
    (all-push (LiesOnPlaces text) old.rows a.row h.rows_lie a.reads.places))
    (subst (AllByRecursion (IsOnPlaces text)) (sym a.tokens)
    (all-with_last (IsOnPlaces text) old.tokens a.row.token h.tokens_lie a.reads.places.token))

-- The row of a re-lex that was taken.
again_is_row : (goal : Goal) (command : Command) (old new : RowReaderState) (row : Row) (now : Live)
    → IsAlike (lexer_behind old.lexer.text old.lexer.source_type old.lexer.collects now) old.lexer
    → fits old.lexer.text goal (token_or_default old.lexer.last) ≡ true → effect_of command ≡ ReLexes goal
    → ReadsRowAgain goal (Some command) old.lexer row new.lexer
    → IsRow old.lexer.text old.lexer.source_type now (Some command) row
again_is_row goal command old new row now behind fit effect r =
    let last : fits old.lexer.text goal (token_or_default (last_live now)) ≡ true =
    ap (λ x. fits old.lexer.text goal (token_or_default x)) (sym behind.last) ∙ fit in
    record {
      command_is = r.command_is;
      place = r.place ∙ behind.place;
      gives =
          subst (λ e. IsOfEffect old.lexer.text old.lexer.source_type now e row) (sym effect)
          (rw last (record {
            taken = r.taken;
            reads =
                rw (← behind.last, r.outcome_is)
                (from_any_place old.lexer.text old.lexer.source_type goal old.lexer.last old.lexer.place
                (token_or_default old.lexer.last).start r.reads.outcome fit r.reads.reads.reads);
          }));
      places = r.places;
    }

again_adds_row : (goal : Goal) (command : Command) (old new : RowReaderState) (ms : List SessionMark) (spare : ℕ)
    → effect_of command ≡ ReLexes goal → fits old.lexer.text goal (token_or_default old.lexer.last) ≡ true
    → IsInOrder old (reverse ms) → AddsAgain goal (Some command) old new
    → AddsRow command (seen old ms spare) (seen new ms spare)
again_adds_row goal command old new ms spare effect fit h a =
    let o = outcome_of a.row in
    let after = again_restored goal (Some command) old new a in
    let live = live_again goal (Some command) old new a in
    let replaced = is_replaced goal old (reverse ms) o h (again_from goal (Some command) old new fit a) in
    let marks =
    fronts-re_lexed old.lexer.text old.lexer.source_type old.lexer.collects (live_now old) o (reverse ms) replaced
    h.are_marks in
    record {
      row = a.row;
      is_row = again_is_row goal command old new a.row (live_now old) h.behind fit effect a.reads;
      after =
          rw (after.text, after.source_type, after.collects, a.rows, live, marks, effect, a.reads.taken) refl;
    }

-- all but the rows is as before
order_restored : (old new : RowReaderState) (marks : List SessionMark) → IsInOrder old marks
    → IsRestored old.lexer new.lexer → new.tokens ≡ old.tokens
    → AllByRecursion (LiesOnPlaces old.lexer.text) new.rows → IsInOrder new marks
order_restored old new marks h back tokens rows =
    let text = old.lexer.text in
    let t = old.lexer.source_type in
    let c = old.lexer.collects in
    let live : live_now new ≡ live_now old = same_live (live_now new) (live_now old) tokens back.findings in
    order text t c new marks back.text back.source_type back.collects
    (subst (λ l. IsAlike (lexer_behind text t c l) new.lexer) (sym live)
    (alike-restored _ old.lexer new.lexer h.behind back))
    (subst (λ l. AreMarks text t c l marks) (sym live) h.are_marks) rows
    (subst (AllByRecursion (IsOnPlaces text)) (sym tokens) h.tokens_lie)

pub order_peeked : (goal : Goal) (command : Option Command) (old new : RowReaderState) (marks : List SessionMark)
    → IsInOrder old marks → AddsPeek goal command old new → IsInOrder new marks
order_peeked goal command old new marks h a =
    order_restored old new marks h a.lexer a.tokens
    (subst (AllByRecursion (LiesOnPlaces old.lexer.text)) (sym a.rows)
    (all-push (LiesOnPlaces old.lexer.text) old.rows a.row h.rows_lie a.reads.places))

pub order_undone : (old new : RowReaderState) (marks : List SessionMark) → IsInOrder old marks → IsUndone old new
    → IsInOrder new marks
order_undone old new marks h u =
    order_restored old new marks h u.lexer u.tokens
    (subst (AllByRecursion (LiesOnPlaces old.lexer.text)) (sym u.rows) h.rows_lie)

pub peek_adds_row : (old new : RowReaderState) (ms : List SessionMark) (spare : ℕ) → IsInOrder old (reverse ms)
    → AddsPeek NextGoal (Some Peek) old new → AddsRow Peek (seen old ms spare) (seen new ms spare)
peek_adds_row old new ms spare h a =
    let back = a.lexer in
    let live : live_now new ≡ live_now old = same_live (live_now new) (live_now old) a.tokens back.findings in
    record {
      row = a.row;
      is_row = read_is_row NextGoal (Some Peek) old.lexer a.behind (live_now old) a.row h.behind a.reads (λ is. is);
      after = rw (back.text, back.source_type, back.collects, a.rows, live) refl;
    }

-- a re-lex that was not taken
order_not_taken : (command : Option Command) (old new : RowReaderState) (marks : List SessionMark)
    → IsInOrder old marks → AddsNotTaken command old new → IsInOrder new marks
order_not_taken command old new marks h a =
    order_restored old new marks h (subst (λ r. IsRestored old.lexer r.lexer) (sym a.after) (restored-refl old.lexer))
    (ap (λ r. r.tokens) a.after)
    (subst (AllByRecursion (LiesOnPlaces old.lexer.text)) (sym (ap (λ r. r.rows) a.after))
    (all-push (LiesOnPlaces old.lexer.text) old.rows (not_taken command old.lexer) h.rows_lie
    (record { token = a.places; value = tt })))

not_taken_is_row : (goal : Goal) (command : Command) (old : RowReaderState) (now : Live)
    → IsAlike (lexer_behind old.lexer.text old.lexer.source_type old.lexer.collects now) old.lexer
    → fits old.lexer.text goal (token_or_default old.lexer.last) ≡ false → effect_of command ≡ ReLexes goal
    → IsOnPlaces old.lexer.text (token_or_default old.lexer.last)
    → IsRow old.lexer.text old.lexer.source_type now (Some command) (not_taken (Some command) old.lexer)
not_taken_is_row goal command old now behind fit effect lies =
    let row = not_taken (Some command) old.lexer in
    let last : fits old.lexer.text goal (token_or_default (last_live now)) ≡ false =
    ap (λ x. fits old.lexer.text goal (token_or_default x)) (sym behind.last) ∙ fit in
    record {
      command_is = refl;
      place = behind.place;
      gives =
          subst (λ e. IsOfEffect old.lexer.text old.lexer.source_type now e row) (sym effect)
          (rw last (record {
            taken = refl;
            token = ap token_or_default behind.last;
            value = refl;
            regex = refl;
            findings = refl;
          }));
      places = record { token = lies; value = tt };
    }

not_taken_adds_row : (goal : Goal) (command : Command) (old new : RowReaderState) (ms : List SessionMark) (spare : ℕ)
    → effect_of command ≡ ReLexes goal → fits old.lexer.text goal (token_or_default old.lexer.last) ≡ false
    → IsInOrder old (reverse ms) → AddsNotTaken (Some command) old new
    → AddsRow command (seen old ms spare) (seen new ms spare)
not_taken_adds_row goal command old new ms spare effect fit h a = record {
  row = not_taken (Some command) old.lexer;
  is_row = not_taken_is_row goal command old (live_now old) h.behind fit effect a.places;
  after = rw (a.after, effect) refl;
}

-- a re-lex, taken or not
pub order_re_lexed : (goal : Goal) (command : Option Command) (old new : RowReaderState) (marks : List SessionMark)
    → IsInOrder old marks
    → MatchBool (fits old.lexer.text goal (token_or_default old.lexer.last)) (AddsAgain goal command old new)
    (AddsNotTaken command old new)
    → IsInOrder new marks
order_re_lexed goal command old new marks h adds =
    by_fit (fits old.lexer.text goal (token_or_default old.lexer.last)) refl adds
  where
    by_fit : (b : Bool) → fits old.lexer.text goal (token_or_default old.lexer.last) ≡ b
        → MatchBool b (AddsAgain goal command old new) (AddsNotTaken command old new) → IsInOrder new marks
    by_fit true fit adds = order_again goal command old new marks fit h adds
    by_fit false fit adds = order_not_taken command old new marks h adds

pub re_lex_adds_row : (goal : Goal) (command : Command) (old new : RowReaderState) (ms : List SessionMark) (spare : ℕ)
    → effect_of command ≡ ReLexes goal → IsInOrder old (reverse ms)
    → MatchBool (fits old.lexer.text goal (token_or_default old.lexer.last)) (AddsAgain goal (Some command) old new)
    (AddsNotTaken (Some command) old new)
    → AddsRow command (seen old ms spare) (seen new ms spare)
re_lex_adds_row goal command old new ms spare effect h adds =
    by_fit (fits old.lexer.text goal (token_or_default old.lexer.last)) refl adds
  where
    by_fit : (b : Bool) → fits old.lexer.text goal (token_or_default old.lexer.last) ≡ b
        → MatchBool b (AddsAgain goal (Some command) old new) (AddsNotTaken (Some command) old new)
        → AddsRow command (seen old ms spare) (seen new ms spare)
    by_fit true fit adds = again_adds_row goal command old new ms spare effect fit h adds
    by_fit false fit adds = not_taken_adds_row goal command old new ms spare effect fit h adds

-- the marks without the last one
commit_popped : (r : RowReaderState) (ms ms' : List SessionMark) (popped : Option SessionMark)
    → ms ≡ ms' ++ option_to_list popped → (IsSome popped ↔ (0 < length ms)) → 0 < length ms
    → IsInOrder r (reverse ms)
    → IsInOrder r (reverse ms')
    × (state_of (live_now r) ms' ≡ after_mark (effect_of Commit) (state_of (live_now r) ms))
commit_popped r ms ms' None e found some h = absurd (let no : false ≡ true = found.1 some in cc)
commit_popped r ms ms' (Some m) e found some h =
    let turned : reverse ms ≡ m ∷ reverse ms' = ap reverse e ∙ reverse-append ms' (m ∷ []) in
    let marks =
    marks-commit r.lexer.text r.lexer.source_type r.lexer.collects (live_now r) m (reverse ms')
    (rw turned at h.are_marks) in (
      record { behind = h.behind; are_marks = marks.0; rows_lie = h.rows_lie; tokens_lie = h.tokens_lie },
      rw (turned, marks.1) refl,
    )

some_marks : (r : RowReaderState) (ms : List SessionMark) → 0 < length (fronts (live_now r) (reverse ms))
    → 0 < length ms
some_marks r ms some = omega (arith, some, length-fronts (live_now r) (reverse ms), length-reverse ms)

pub order_commit : (r : RowReaderState) (ms ms' : List SessionMark) (popped : Option SessionMark)
    → ms ≡ ms' ++ option_to_list popped → (IsSome popped ↔ (0 < length ms))
    → 0 < length (fronts (live_now r) (reverse ms)) → IsInOrder r (reverse ms) → IsInOrder r (reverse ms')
order_commit r ms ms' popped e found some h = (commit_popped r ms ms' popped e found (some_marks r ms some) h).0

-- a place is freed by the mark that was in it
freed : (ms : List SessionMark) (spare spare' : ℕ) (popped : Option SessionMark) → (IsSome popped ↔ (0 < length ms))
    → 0 < length ms → spare' ≡ spare + length (option_to_list popped) → spare' ≡ spare + 1
freed ms spare spare' None found some e = absurd (let no : false ≡ true = found.1 some in cc)
freed ms spare spare' (Some m) found some e = e

pub commit_is : (r : RowReaderState) (ms ms' : List SessionMark) (spare spare' : ℕ) (popped : Option SessionMark)
    → ms ≡ ms' ++ option_to_list popped → spare' ≡ spare + length (option_to_list popped)
    → (IsSome popped ↔ (0 < length ms))
    → 0 < length (fronts (live_now r) (reverse ms)) → IsInOrder r (reverse ms)
    → seen r ms' spare' ≡ after_command Commit (seen r ms spare)
commit_is r ms ms' spare spare' popped e free found some h =
    let state = (commit_popped r ms ms' popped e found (some_marks r ms some) h).1 in
    rw (state, freed ms spare spare' popped found (some_marks r ms some) free) refl

pub length_marks : (r : RowReaderState) (ms : List SessionMark) → length ms ≡ length (fronts (live_now r) (reverse ms))
length_marks r ms = sym (length-fronts (live_now r) (reverse ms) ∙ length-reverse ms)

-- one more mark: all that is live is live at it
mark_front : (r : RowReaderState) (ms : List SessionMark) (m : SessionMark) → IsMarkOf r m → IsInOrder r (reverse ms)
    → front (live_now r) m ≡ live_now r
mark_front r ms m is h =
    front_all (live_now r) m r.lexer r.lexer.text r.lexer.source_type r.lexer.collects is.tokens is.checkpoint h.behind

checkpoint_alike : (a b : LexerState) (m : SessionMark) → IsAlike a b → m.checkpoint ≡ checkpoint_of b
    → m.checkpoint
    ≡ checkpoint_of
    (record a {
      pure_comments = m.checkpoint.pure_comments;
      no_side_effects_comments = m.checkpoint.no_side_effects_comments;
    })
checkpoint_alike a b m h is =
    let pure = ap (λ x. x.pure_comments) is in
    let no_side_effects = ap (λ x. x.no_side_effects_comments) is in
    is ∙ rw (h.place, h.last, h.tokens, h.findings, pure, no_side_effects) refl

pub order_mark : (r : RowReaderState) (ms ms' : List SessionMark) (m : SessionMark) → ms' ≡ ms ++ m ∷ [] → IsMarkOf r m
    → IsInOrder r (reverse ms) → IsInOrder r (reverse ms')
order_mark r ms ms' m e is h =
    let text = r.lexer.text in
    let t = r.lexer.source_type in
    let c = r.lexer.collects in
    let now = live_now r in
    let turned : reverse ms' ≡ m ∷ reverse ms = ap reverse e ∙ reverse-append ms (m ∷ []) in
    let whole : front now m ≡ now = mark_front r ms m is h in
    let behind = lexer_behind text t c now in
    subst (IsInOrder r) (sym turned) (record {
      behind = h.behind;
      are_marks = (
        record {
          tokens = omega (arith, is.tokens);
          checkpoint =
              checkpoint_alike behind r.lexer m h.behind is.checkpoint
              ∙ ap (λ l. checkpoint_of (lexer_at text t c m l)) (sym whole);
          goes_on =
              subst (λ l. GoesOnFrom (lexer_behind text t c l) behind) (sym whole)
              (goes_on-restored behind behind (restored-refl behind));
          can_rewind =
              can_rewind-on r.lexer behind m.checkpoint is.can_rewind
              (goes_on-alike r.lexer behind (alike-sym behind r.lexer h.behind));
        },
        subst (λ l. AreMarks text t c l (reverse ms)) (sym whole) h.are_marks,
      );
      rows_lie = h.rows_lie;
      tokens_lie = h.tokens_lie;
    })

pub mark_is : (r : RowReaderState) (ms ms' : List SessionMark) (spare spare' : ℕ) (m : SessionMark)
    → ms' ≡ ms ++ m ∷ [] → spare' + 1 ≡ spare → IsMarkOf r m → IsInOrder r (reverse ms)
    → seen r ms' spare' ≡ after_command Mark (seen r ms spare)
mark_is r ms ms' spare spare' m e free is h =
    let taken : spare' ≡ spare - 1 = omega (arith, free) in
    let turned : reverse ms' ≡ m ∷ reverse ms = ap reverse e ∙ reverse-append ms (m ∷ []) in
    let whole : front (live_now r) m ≡ live_now r = mark_front r ms m is h in
    rw (turned, whole, taken) refl

-- the lexer may go back to the last mark
last_mark : (r : RowReaderState) (ms ms' : List SessionMark) (m : SessionMark) → ms ≡ ms' ++ m ∷ []
    → IsInOrder r (reverse ms)
    → AreMarks r.lexer.text r.lexer.source_type r.lexer.collects (live_now r) (m ∷ reverse ms')
last_mark r ms ms' m e h =
    subst (AreMarks r.lexer.text r.lexer.source_type r.lexer.collects (live_now r))
    (ap reverse e ∙ reverse-append ms' (m ∷ [])) h.are_marks

pub may_rewind : (r : RowReaderState) (ms ms' : List SessionMark) (m : SessionMark) → ms ≡ ms' ++ m ∷ []
    → IsInOrder r (reverse ms) → CanRewind r.lexer m.checkpoint
may_rewind r ms ms' m e h =
    can_rewind-on _ r.lexer m.checkpoint (last_mark r ms ms' m e h).0.can_rewind (goes_on-alike _ r.lexer h.behind)

-- back at the last mark
pub record IsBack (r new : RowReaderState) (ms ms' : List SessionMark) (m : SessionMark) : Type 0 where
  pub ends : ms ≡ ms' ++ m ∷ []
  pub in_order : IsInOrder r (reverse ms)
  pub back : GoesToMark m r new

pub record LivesAgain (r new : RowReaderState) (m : SessionMark) : Type 0 where
  pub lexer : IsAlike
      (lexer_behind r.lexer.text r.lexer.source_type r.lexer.collects (front (live_now r) m)) new.lexer
  pub rows : new.rows ≡ r.rows
  pub live : live_now new ≡ front (live_now r) m

goes_on_at : (text : List ℕ) (t : SourceType) (c : Bool) (m : SessionMark) (now : Live) (lexer : LexerState)
    → GoesOnFrom (lexer_behind text t c now) lexer → GoesOnFrom (lexer_at text t c m now) lexer
goes_on_at text t c m now lexer g = record {
  text = g.text;
  source_type = g.source_type;
  collects = g.collects;
  tokens = g.tokens;
  findings = g.findings;
  goes_on = g.goes_on;
}

lives_again : (r new : RowReaderState) (ms ms' : List SessionMark) (m : SessionMark) → IsBack r new ms ms' m
    → LivesAgain r new m
lives_again r new ms ms' m h =
    let text = r.lexer.text in
    let t = r.lexer.source_type in
    let c = r.lexer.collects in
    let now = live_now r in
    let is = (last_mark r ms ms' m h.ends h.in_order).0 in
    let restored =
    h.back.lexer (lexer_at text t c m (front now m)) is.checkpoint
    (goes_on_at text t c m (front now m) r.lexer
    (goes_on-trans _ _ _ is.goes_on (goes_on-alike _ r.lexer h.in_order.behind))) in
    let last : new.lexer.last ≡ m.checkpoint.last = restored.last ∙ sym (ap (λ x. x.last) is.checkpoint) in
    let none : m.checkpoint.last ≡ None → take m.tokens r.tokens ≡ [] =
    λ none. ap (λ n. take n r.tokens) (none_at text t c now m is none) in
    let tokens : new.tokens ≡ put_back (take m.tokens r.tokens) m.checkpoint.last =
    h.back.tokens ∙ ap (λ x. with_last (take m.tokens r.tokens) (token_or_default x)) last
    ∙ replaced (take m.tokens r.tokens) m.checkpoint.last none
    in
    record {
      lexer = record {
        text = restored.text;
        source_type = restored.source_type;
        collects = restored.collects;
        place = restored.place;
        last = restored.last;
        tokens = restored.tokens;
        findings = restored.findings;
      };
      rows = h.back.rows;
      live = same_live (live_now new) (front now m) tokens restored.findings;
    }

pub order_rewind : (r new : RowReaderState) (ms ms' : List SessionMark) (m : SessionMark) → IsBack r new ms ms' m
    → IsInOrder new (reverse ms')
order_rewind r new ms ms' m h =
    let text = r.lexer.text in
    let t = r.lexer.source_type in
    let c = r.lexer.collects in
    let l = lives_again r new ms ms' m h in
    let marks = last_mark r ms ms' m h.ends h.in_order in
    order text t c new (reverse ms') l.lexer.text l.lexer.source_type l.lexer.collects
    (subst (λ x. IsAlike (lexer_behind text t c x) new.lexer) (sym l.live) l.lexer)
    (subst (λ x. AreMarks text t c x (reverse ms')) (sym l.live) marks.1)
    (subst (AllByRecursion (LiesOnPlaces text)) (sym l.rows) h.in_order.rows_lie)
    (subst (AllByRecursion (IsOnPlaces text)) (sym (ap (λ x. x.tokens) l.live))
    (all-put_back (IsOnPlaces text) m.tokens r.tokens m.checkpoint.last h.in_order.tokens_lie marks.0.can_rewind.last))

pub rewind_is : (r new : RowReaderState) (ms ms' : List SessionMark) (spare spare' : ℕ) (m : SessionMark)
    → spare' ≡ spare + 1 → IsBack r new ms ms' m → seen new ms' spare' ≡ after_command Rewind (seen r ms spare)
rewind_is r new ms ms' spare spare' m free h =
    let l = lives_again r new ms ms' m h in
    let turned : reverse ms ≡ m ∷ reverse ms' = ap reverse h.ends ∙ reverse-append ms' (m ∷ []) in
    rw (l.lexer.text, l.lexer.source_type, l.lexer.collects, l.rows, l.live, turned, free) refl

-- either way, whether a call could allocate
pub either_way : {T E A B C : Type 0} → (r : Result T E) → OnOk r A → OnErr r B → (A → C) → (B → C) → C
either_way (Ok x) a b f g = f a
either_way (Err e) a b f g = g b
