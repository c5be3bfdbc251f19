-- Commands that a lexer follows, one behind the other.
use Rattle.std.proofs.Common.{◌≡◌, ◌≢◌, ℕ, ◌+◌, ◌<◌, ◌≤◌, ◌^◌, true, false, List, [], ◌∷◌, ◌++◌, length, map}
use Rattle.std.proofs.Common.{refl, sym, ◌∙◌, ap, subst, arith, get_or, reverse, take, Option, Some, None}
use Rattle.std.proofs.lemmas.List.{length-append, length-reverse, take_all, take_more}
use Rattle.std.specs.List.{AllByRecursion, last_or}
use Rattle.std.specs.Prelude.{IfSome, MatchBool, slice_get, unwrap_or}
use Rattle.std.specs.Str.{IsUtf8}
use Rattle.js_text.specs.Lists.{with_last}
use Rattle.js_text.specs.declared.source_type.SourceType.{SourceType}
use Rattle.js_kind.specs.TokenParts.{TokenParts}
use Rattle.js_grammar.specs.Reads.{is_onward}
use Rattle.js_grammar.specs.declared.goal.Goal.{Goal}
use Rattle.js_grammar.specs.declared.goal.Goal.TheVariants.{First, Next as NextGoal, JsxChild as ChildGoal}
use Rattle.js_grammar.specs.declared.goal.Goal.TheVariants.{JsxAttributeValue}
use Rattle.js_lexer.specs.Lexer.{CanRewind, IsOnPlaces, LexerState, ReadsToken, checkpoint_of, fresh, token_or_default}
use Rattle.js_lexer.proofs.LexerSteps.{default_lies}
use Rattle.js_session.specs.Effects.{closes, effect_of, free_after, gives_row, is_step}
use Rattle.js_session.specs.Faults.{HasMarks}
use Rattle.js_session.specs.Live.{after_mark}
use Rattle.js_session.specs.Marks.{IsInOrder, fronts, live_now}
use Rattle.js_session.specs.Report.{HasMark}
use Rattle.js_session.specs.RowReader.{AddsLive, IsMarkOf, RowReaderState, not_taken}
use Rattle.js_session.specs.Session.{AddsRow, SessionState, after_command, report_of}
use Rattle.js_session.specs.declared.command.Command.{Command}
use Rattle.js_session.specs.declared.command.Command.TheVariants.{Next, JsxChild, JsxAttr, Regex, TemplateTail}
use Rattle.js_session.specs.declared.command.Command.TheVariants.{JsxName, RAngle, TsLAngle, TsRAngle, Peek}
use Rattle.js_session.specs.declared.command.Command.TheVariants.{Mark, Rewind, Commit}
use Rattle.js_session.specs.declared.command.Effect.{Effect}
use Rattle.js_session.specs.declared.command.Effect.TheVariants.{Reads, Peeks, ReLexes, Opens, Rewinds, Commits}
use Rattle.js_session.specs.declared.mark.SessionMark.{SessionMark}
use Rattle.js_session.specs.declared.row.Row.{Row}
use Rattle.js_session.proofs.RunLemmas.{Progress, command_at, has_mark, progress_end, progress_follow}
use Rattle.js_session.proofs.RunLemmas.{progress_reserved, progress_start}
use Rattle.js_session.proofs.StepLemmas.{IsBack, commit_is, first_added, length_marks, mark_is, may_rewind, order_added}
use Rattle.js_session.proofs.StepLemmas.{order_commit, order_mark, order_rewind, rewind_is, seen}
use Rattle.js_session.specs.RowReader.{ReadsIfFits}
use Rattle.js_lists.specs.LiveLists.{taken_of}
use Rattle.js_lists.specs.LiveRows.{RowState, live_rows, with_mark, with_row}
use Rattle.js_lists.specs.Steps.{AreHeld, ClosesMark, FollowsCommand, GoesBack, HandsEach, LooksAhead, MayGoBack}
use Rattle.js_lists.specs.Steps.{OpensMark, ReadsAgain, ReadsOn, TakesSteps, mark_of}
use Rattle.js_lists.specs.Taken.{Taken, TakesEach}
use Rattle.js_lists.specs.declared.pending.Pending.{Pending}
use Rattle.js_session.specs.declared.re_lex.LastRead.{LastRead}
use Rattle.js_lists.proofs.LiveLemmas.{live_tokens}
use Rattle.js_lists.proofs.LiveSoFar.{LiveSoFar, live_end, live_first, live_mark, live_step, unmarked}
use Rattle.js_lists.proofs.PendingLemmas.{marks_length}
use Rattle.js_lists.proofs.ReaderSteps.{AddsStep, fresh_in_order, looks_ahead, not_again, reader_with, reads_again}
use Rattle.js_lists.proofs.ReaderSteps.{reads_on}
use Rattle.js_lists.proofs.RowLemmas.{holds_value, row_made, row_read}
use Rattle.js_lists.proofs.StandsLemmas.{StandsBehind, StandsFor, stands_again, stands_at, stands_back}
use Rattle.js_lists.proofs.StandsLemmas.{stands_behind, stands_closed, stands_held, stands_on, stands_open, takes_all}
use Rattle.js_lists.proofs.TakenLemmas.{taken_backward, tokens_of_taken}

-- what reads the rows of a session with this lexer
abbrev pub reader : LexerState → List Row → List TokenParts → RowReaderState
reader l rows tokens = record { lexer = l; rows = rows; tokens = tokens }

-- The commands up to an index were followed: a session with the same marks has answered them. What is pending stands for
-- the live rows behind some whose tokens were taken.
pub record Following {S : Type 0} (takes : S → Taken → S → Type 0) (text : List ℕ) (t : SourceType)
    (commands : List Command) (index : ℕ) (start now : S) (l : LexerState) (p : Pending) : Type 0 where
  pub rows : List Row
  pub tokens : List TokenParts
  pub marks : List SessionMark
  pub in_order : IsInOrder (reader l rows tokens) (reverse marks)
  pub progress : Progress text t false commands index (seen (reader l rows tokens) marks 0)
  pub first : Row
  pub more : List Row
  pub rows_are : rows ≡ first ∷ more
  pub state : RowState
  pub live : LiveSoFar first (take index commands) more state
  pub handed : List Row
  pub stands : StandsFor l.decoded p handed marks state
  pub taken : TakesEach takes start (taken_backward handed) now

-- the next command of a list
pub record IsNext (commands : List Command) (index : ℕ) (command : Command) : Type 0 where
  pub within : index < length commands
  pub here : slice_get commands index ≡ Some command
  pub at : get_or commands index command ≡ command

pub is_next : (commands : List Command) (index : ℕ) (d : Command) → index < length commands
    → IsNext commands index (get_or commands index d)
is_next commands index d within =
    let at = command_at commands index d within in record { within = within; here = at.0; at = at.1 }

next_taken : (commands : List Command) (index : ℕ) (command : Command) → IsNext commands index command
    → take (index + 1) commands ≡ take index commands ++ command ∷ []
next_taken commands index command n =
    take_more commands index command n.within ∙ ap (λ c. take index commands ++ c ∷ []) n.at

-- One more command, which gives a row.
following_row : {S : Type 0} (takes : S → Taken → S → Type 0) (text : List ℕ) (t : SourceType)
    (commands : List Command) (index : ℕ) (command : Command) (start now new : S) (l k : LexerState) (p q : Pending)
    → IsNext commands index command → HasMarks commands → is_step command ≡ true
    → (h : Following takes text t commands index start now l p) (row : Row) (tokens : List TokenParts)
    → AddsStep command (reader l h.rows h.tokens) h.marks 0 k row tokens
    → (handed : List Row) (state : RowState) → with_row (effect_of command) row h.state ≡ state
    → StandsFor k.decoded q handed h.marks state → TakesEach takes start (taken_backward handed) new
    → Following takes text t commands (index + 1) start new k q
following_row takes text t commands index command start now new l k p q next marks step h row tokens adds handed state
    is stands taken =
    let before = reader l h.rows h.tokens in
    let after = reader_with before k row tokens in
    let old : SessionState = seen before h.marks 0 in
    let added : SessionState = seen after h.marks 0 in
    record {
      rows = h.rows ++ row ∷ [];
      tokens = tokens;
      marks = h.marks;
      in_order = adds.in_order;
      progress =
          progress_follow text t false commands index old added command h.progress next.within next.at
          (has_mark text t false commands index old command h.progress next.here marks)
          (subst (λ b. MatchBool b (AddsRow command old added) (added ≡ after_command command old)) (sym step)
          adds.adds);
      first = h.first;
      more = h.more ++ row ∷ [];
      rows_are = ap (λ rs. rs ++ row ∷ []) h.rows_are;
      state = state;
      live =
          subst (λ cs. LiveSoFar h.first cs (h.more ++ row ∷ []) state) (sym (next_taken commands index command next))
          (live_step h.first (take index commands) h.more h.state state command row step is h.live);
      handed = handed;
      stands = stands;
      taken = taken;
    }

-- One more command, which gives none.
following_mark : {S : Type 0} (takes : S → Taken → S → Type 0) (text : List ℕ) (t : SourceType)
    (commands : List Command) (index : ℕ) (command : Command) (start now : S) (l k : LexerState) (p q : Pending)
    → IsNext commands index command → HasMarks commands → is_step command ≡ false
    → (h : Following takes text t commands index start now l p) (tokens : List TokenParts) (marks : List SessionMark)
    (spare free : ℕ)
    → seen (reader k h.rows tokens) marks free
    ≡ after_command command (seen (reader l h.rows h.tokens) h.marks spare)
    → IsInOrder (reader k h.rows tokens) (reverse marks) → (state : RowState)
    → with_mark (effect_of command) h.state ≡ state → StandsFor k.decoded q h.handed marks state
    → Following takes text t commands (index + 1) start now k q
following_mark takes text t commands index command start now l k p q next has step h tokens marks spare free after
    in_order state is stands =
    let before = reader l h.rows h.tokens in
    let old : SessionState = seen before h.marks spare in
    let new : SessionState = seen (reader k h.rows tokens) marks free in
    let reserved : Progress text t false commands index old =
    progress_reserved text t false commands index (seen before h.marks 0) old refl h.progress in
    let followed : Progress text t false commands (index + 1) new =
    progress_follow text t false commands index old new command reserved next.within next.at
    (has_mark text t false commands index old command reserved next.here has)
    (subst (λ b. MatchBool b (AddsRow command old new) (new ≡ after_command command old)) (sym step) after) in
    record {
      rows = h.rows;
      tokens = tokens;
      marks = marks;
      in_order = in_order;
      progress =
          progress_reserved text t false commands (index + 1) new (seen (reader k h.rows tokens) marks 0) refl
          followed;
      first = h.first;
      more = h.more;
      rows_are = h.rows_are;
      state = state;
      live =
          subst (λ cs. LiveSoFar h.first cs h.more state) (sym (next_taken commands index command next))
          (live_mark h.first (take index commands) h.more h.state state command step is h.live);
      handed = h.handed;
      stands = stands;
      taken = h.taken;
    }

-- the text of the lexer is UTF-8
following_utf8 : {S : Type 0} (takes : S → Taken → S → Type 0) (text : List ℕ) (t : SourceType)
    (commands : List Command) (index : ℕ) (start now : S) (l : LexerState) (p : Pending) → IsUtf8 text
    → Following takes text t commands index start now l p → IsUtf8 l.text
following_utf8 takes text t commands index start now l p u h = subst IsUtf8 (sym h.progress.text_is) u

onward_by : (a b : Goal) → Reads a ≡ Reads b → is_onward a ≡ true → is_onward b ≡ true
onward_by a b e is = let same : a ≡ b = cc in subst (λ g. is_onward g ≡ true) same is

-- commands that read on have goals that do
reads_onward : (command : Command) (goal : Goal) → effect_of command ≡ Reads goal → is_onward goal ≡ true
reads_onward Next goal e = onward_by NextGoal goal e refl
reads_onward JsxChild goal e = onward_by ChildGoal goal e refl
reads_onward JsxAttr goal e = onward_by JsxAttributeValue goal e refl
reads_onward Regex goal e = absurd cc
reads_onward TemplateTail goal e = absurd cc
reads_onward JsxName goal e = absurd cc
reads_onward RAngle goal e = absurd cc
reads_onward TsLAngle goal e = absurd cc
reads_onward TsRAngle goal e = absurd cc
reads_onward Peek goal e = absurd cc
reads_onward Mark goal e = absurd cc
reads_onward Rewind goal e = absurd cc
reads_onward Commit goal e = absurd cc

-- one command peeks
peeks_is_peek : (command : Command) (goal : Goal) → effect_of command ≡ Peeks goal → command ≡ Peek
peeks_is_peek Next goal e = absurd cc
peeks_is_peek JsxChild goal e = absurd cc
peeks_is_peek JsxAttr goal e = absurd cc
peeks_is_peek Regex goal e = absurd cc
peeks_is_peek TemplateTail goal e = absurd cc
peeks_is_peek JsxName goal e = absurd cc
peeks_is_peek RAngle goal e = absurd cc
peeks_is_peek TsLAngle goal e = absurd cc
peeks_is_peek TsRAngle goal e = absurd cc
peeks_is_peek Peek goal e = refl
peeks_is_peek Mark goal e = absurd cc
peeks_is_peek Rewind goal e = absurd cc
peeks_is_peek Commit goal e = absurd cc

-- A command that reads on.
follows_on : {S : Type 0} (takes : S → Taken → S → Type 0) (text : List ℕ) (t : SourceType) (commands : List Command)
    (index : ℕ) (command : Command) (goal : Goal) (start now new : S) (l k : LexerState) (p q : Pending) → IsUtf8 text
    → IsNext commands index command → HasMarks commands → effect_of command ≡ Reads goal
    → Following takes text t commands index start now l p → ReadsOn takes goal l k p q now new
    → Following takes text t commands (index + 1) start new k q
follows_on takes text t commands index command goal start now new l k p q u next has effect h f =
    let live =
    reads_on goal command (reader l h.rows h.tokens) h.marks 0 k q.last effect (reads_onward command goal effect)
    (following_utf8 takes text t commands index start now l p u h) f.reads f.regex h.in_order in
    let state : RowState = record h.state { now = live.row ∷ h.state.now } in
    let behind : StandsBehind takes k.decoded (record f.settled { last = q.last }) h.marks state start new =
    stands_behind takes l.decoded k.decoded p f.settled q.last h.handed h.marks h.state live.row start now new p.marks
    refl f.reads.kept live.holds h.stands h.taken f.settles in
    following_row takes text t commands index command start now new l k p q next has (ap gives_row effect) h live.row
    (h.tokens ++ q.last.token ∷ []) live.steps behind.handed state (ap (λ e. with_row e live.row h.state) effect)
    (subst (λ x. StandsFor k.decoded x behind.handed h.marks state) (sym f.rest) behind.stands) behind.taken

-- A command that peeks.
follows_peek : {S : Type 0} (takes : S → Taken → S → Type 0) (text : List ℕ) (t : SourceType) (commands : List Command)
    (index : ℕ) (command : Command) (goal : Goal) (start now : S) (l k : LexerState) (p : Pending) → IsUtf8 text
    → IsNext commands index command → HasMarks commands → effect_of command ≡ Peeks goal
    → Following takes text t commands index start now l p → LooksAhead l k
    → Following takes text t commands (index + 1) start now k p
follows_peek takes text t commands index command goal start now l k p u next has effect h f =
    let aside =
    looks_ahead (reader l h.rows h.tokens) h.marks 0 k f.0
    (following_utf8 takes text t commands index start now l p u h) f.1 h.in_order in
    following_row takes text t commands index command start now now l k p p next has (ap gives_row effect) h aside.row
    h.tokens
    (subst (λ c. AddsStep c (reader l h.rows h.tokens) h.marks 0 k aside.row h.tokens)
    (sym (peeks_is_peek command goal effect)) aside.steps)
    h.handed h.state (ap (λ e. with_row e aside.row h.state) effect)
    (stands_on l.decoded k.decoded p h.handed h.marks h.state f.1.kept h.stands) h.taken

-- the state once a row was taken in the place of the last one
in_place : (goal : Goal) (row : Row) (state : RowState) (first : Row) (rest : List Row) → row.taken ≡ true
    → state.now ≡ first ∷ rest → with_row (ReLexes goal) row state ≡ record state { now = row ∷ rest }
in_place goal row state first rest taken now = rw (taken, now) refl

-- A command that reads the last token again, where it fits.
follows_again : {S : Type 0} (takes : S → Taken → S → Type 0) (text : List ℕ) (t : SourceType) (commands : List Command)
    (index : ℕ) (command : Command) (goal : Goal) (start now : S) (l k : LexerState) (p : Pending) (last : LastRead)
    → IsUtf8 text → IsNext commands index command → HasMarks commands → effect_of command ≡ ReLexes goal
    → Following takes text t commands index start now l p → ReadsIfFits goal l (Some last) k
    → Following takes text t commands (index + 1) start now k (record p { last = last })
follows_again takes text t commands index command goal start now l k p last u next has effect h f =
    let live =
    reads_again goal command (reader l h.rows h.tokens) h.marks 0 k last effect f.0
    (following_utf8 takes text t commands index start now l p u h) f.1 h.in_order in
    let rest = reverse h.stands.waits ++ h.handed in
    let state : RowState = record h.state { now = live.row ∷ rest } in
    following_row takes text t commands index command start now now l k p (record p { last = last }) next has
    (ap gives_row effect) h live.row (with_last h.tokens last.token) live.steps h.handed state
    (ap (λ e. with_row e live.row h.state) effect
    ∙ in_place goal live.row h.state h.stands.row rest live.taken h.stands.now)
    (stands_again l.decoded k.decoded p last h.handed h.marks h.state live.row f.1.reads.kept live.holds h.stands)
    h.taken

-- and where it does not
follows_not_again : {S : Type 0} (takes : S → Taken → S → Type 0) (text : List ℕ) (t : SourceType)
    (commands : List Command) (index : ℕ) (command : Command) (goal : Goal) (start now : S) (l k : LexerState)
    (p : Pending) → IsNext commands index command → HasMarks commands → effect_of command ≡ ReLexes goal
    → Following takes text t commands index start now l p → IsOnPlaces l.text (token_or_default l.last)
    → ReadsIfFits goal l None k → Following takes text t commands (index + 1) start now k p
follows_not_again takes text t commands index command goal start now l k p next has effect h lies none =
    let row = not_taken (Some command) l in
    subst (λ x. Following takes text t commands (index + 1) start now x p) (sym none.1)
    (following_row takes text t commands index command start now now l l p p next has (ap gives_row effect) h row
    h.tokens (not_again goal command (reader l h.rows h.tokens) h.marks 0 effect none.0 lies h.in_order) h.handed
    h.state (ap (λ e. with_row e row h.state) effect) h.stands h.taken)

-- the last of some tokens that lie on places does
last_lies : (text : List ℕ) (o : Option TokenParts) (ts : List TokenParts) → IfSome o (IsOnPlaces text)
    → AllByRecursion (IsOnPlaces text) ts → IfSome (last_or o ts) (IsOnPlaces text)
last_lies text o [] h all = h
last_lies text o (t ∷ ts) h all = last_lies text (Some t) ts all.0 all.1

-- and so does the last token of the lexer
following_lies : {S : Type 0} (takes : S → Taken → S → Type 0) (text : List ℕ) (t : SourceType)
    (commands : List Command) (index : ℕ) (start now : S) (l : LexerState) (p : Pending) → IsUtf8 text
    → Following takes text t commands index start now l p → IsOnPlaces l.text (token_or_default l.last)
following_lies takes text t commands index start now l p u h =
    subst (λ o. IsOnPlaces l.text (token_or_default o)) (sym h.in_order.behind.last)
    (default_lies l.text (last_or None h.tokens) (following_utf8 takes text t commands index start now l p u h)
    (last_lies l.text None h.tokens tt h.in_order.tokens_lie))

follows_re_lex : {S : Type 0} (takes : S → Taken → S → Type 0) (text : List ℕ) (t : SourceType)
    (commands : List Command) (index : ℕ) (command : Command) (goal : Goal) (start now : S) (l k : LexerState)
    (p q : Pending) → IsUtf8 text → IsNext commands index command → HasMarks commands
    → effect_of command ≡ ReLexes goal → Following takes text t commands index start now l p → ReadsAgain goal l k p q
    → Following takes text t commands (index + 1) start now k q
follows_re_lex takes text t commands index command goal start now l k p q u next has effect h f =
    subst (λ x. Following takes text t commands (index + 1) start now k x) (sym f.after) (by_found f.found f.reads)
  where
    by_found : (found : Option LastRead) → ReadsIfFits goal l found k
        → Following takes text t commands (index + 1) start now k (record p { last = unwrap_or found p.last })
    by_found None none =
        follows_not_again takes text t commands index command goal start now l k p next has effect h
        (following_lies takes text t commands index start now l p u h) none
    by_found (Some last) some =
        follows_again takes text t commands index command goal start now l k p last u next has effect h some

-- what a command does to a session, by its effect
command_after : (a b : Command) (s : SessionState) → effect_of a ≡ effect_of b → after_command b s ≡ after_command a s
command_after a b s same =
    ap (λ e. record s { state = after_mark e s.state; spare = free_after e s.spare }) (sym same)

-- A command that opens a mark.
follows_open : {S : Type 0} (takes : S → Taken → S → Type 0) (text : List ℕ) (t : SourceType) (commands : List Command)
    (index : ℕ) (command : Command) (start now : S) (l : LexerState) (p q : Pending) → IsNext commands index command
    → HasMarks commands → effect_of command ≡ Opens → Following takes text t commands index start now l p
    → OpensMark l p q → Following takes text t commands (index + 1) start now l q
follows_open takes text t commands index command start now l p q next has effect h f =
    let r = reader l h.rows h.tokens in
    let x : SessionMark = record { checkpoint = checkpoint_of l; tokens = length h.tokens } in
    let marks = h.marks ++ x ∷ [] in
    let is_mark : IsMarkOf r x = record { tokens = refl; checkpoint = refl; can_rewind = f.can_rewind } in
    let state : RowState = record h.state { marks = h.state.now ∷ h.state.marks } in
    following_mark takes text t commands index command start now l l p q next has (ap gives_row effect) h h.tokens
    marks 1 0
    (mark_is r h.marks marks 1 0 x refl refl is_mark h.in_order ∙ command_after command Mark (seen r h.marks 1) effect)
    (order_mark r h.marks marks x refl is_mark h.in_order) state (ap (λ e. with_mark e h.state) effect)
    (subst (λ y. StandsFor l.decoded y h.handed marks state) (sym f.after)
    (stands_open l.decoded p h.handed h.marks h.state (mark_of l p) x refl refl refl h.stands))

-- the state at the last mark
rewound_rows : (state : RowState) (live : List Row) (lives : List (List Row)) → state.marks ≡ live ∷ lives
    → with_mark Rewinds state ≡ record { now = live; marks = lives }
rewound_rows state live lives is = rw is refl

committed_rows : (state : RowState) (live : List Row) (lives : List (List Row)) → state.marks ≡ live ∷ lives
    → with_mark Commits state ≡ record { now = state.now; marks = lives }
committed_rows state live lives is = rw is refl

-- A command that goes back to the last mark.
follows_back : {S : Type 0} (takes : S → Taken → S → Type 0) (text : List ℕ) (t : SourceType) (commands : List Command)
    (index : ℕ) (command : Command) (start now : S) (l k : LexerState) (p q : Pending) → IsNext commands index command
    → HasMarks commands → effect_of command ≡ Rewinds → Following takes text t commands index start now l p
    → GoesBack l k p q → Following takes text t commands (index + 1) start now k q
follows_back takes text t commands index command start now l k p q next has effect h f =
    let r = reader l h.rows h.tokens in
    let at = stands_at l.decoded p q.marks f.mark h.handed h.marks h.state f.marks h.stands in
    let tokens = with_last (take at.x.tokens h.tokens) (token_or_default k.last) in
    let new = reader k h.rows tokens in
    let back : IsBack r new h.marks at.others at.x =
    record {
      ends = at.marks_are;
      in_order = h.in_order;
      back = record {
        lexer = λ earlier is on. f.lexer earlier (sym at.holds.checkpoint ∙ is) on;
        rows = refl;
        tokens = refl;
      };
    } in
    let state : RowState = record { now = at.live; marks = at.lives } in
    following_mark takes text t commands index command start now l k p q next has (ap gives_row effect) h tokens
    at.others 0 1
    (rewind_is r new h.marks at.others 0 1 at.x refl back ∙ command_after command Rewind (seen r h.marks 0) effect)
    (order_rewind r new h.marks at.others at.x back) state
    (ap (λ e. with_mark e h.state) effect ∙ rewound_rows h.state at.live at.lives at.lives_are)
    (subst (λ v. StandsFor v q h.handed at.others state) (sym f.decoded)
    (subst (λ y. StandsFor l.decoded y h.handed at.others state) (sym f.after)
    (stands_back l.decoded p q.marks f.mark h.handed h.marks h.state h.stands at)))

some_length : {A : Type 0} (xs : List A) (x : A) (all : List A) → all ≡ xs ++ x ∷ [] → 0 < length all
some_length xs x all is = omega (arith, ap length is, length-append xs (x ∷ []))

-- A command that closes the last mark.
follows_commit : {S : Type 0} (takes : S → Taken → S → Type 0) (text : List ℕ) (t : SourceType)
    (commands : List Command) (index : ℕ) (command : Command) (start now : S) (l : LexerState) (p q : Pending)
    → IsNext commands index command → HasMarks commands → effect_of command ≡ Commits
    → Following takes text t commands index start now l p → ClosesMark p q
    → Following takes text t commands (index + 1) start now l q
follows_commit takes text t commands index command start now l p q next has effect h f =
    let r = reader l h.rows h.tokens in
    let at = stands_at l.decoded p q.marks f.mark h.handed h.marks h.state f.marks h.stands in
    let many : 0 < length h.marks = some_length at.others at.x h.marks at.marks_are in
    let some : 0 < length (fronts (live_now r) (reverse h.marks)) = omega (arith, many, length_marks r h.marks) in
    let state : RowState = record { now = h.state.now; marks = at.lives } in
    following_mark takes text t commands index command start now l l p q next has (ap gives_row effect) h h.tokens
    at.others 0 1
    (commit_is r h.marks at.others 0 1 (Some at.x) at.marks_are refl ((λ is. many), (λ is. refl)) some h.in_order
    ∙ command_after command Commit (seen r h.marks 0) effect)
    (order_commit r h.marks at.others (Some at.x) at.marks_are ((λ is. many), (λ is. refl)) some h.in_order) state
    (ap (λ e. with_mark e h.state) effect ∙ committed_rows h.state at.live at.lives at.lives_are)
    (subst (λ y. StandsFor l.decoded y h.handed at.others state) (sym f.after)
    (stands_closed l.decoded p q.marks f.mark h.handed h.marks h.state h.stands at))

-- One more command was followed.
pub following_next : {S : Type 0} (takes : S → Taken → S → Type 0) (text : List ℕ) (t : SourceType)
    (commands : List Command) (index : ℕ) (command : Command) (start now new : S) (l k : LexerState) (p q : Pending)
    → IsUtf8 text → IsNext commands index command → HasMarks commands
    → Following takes text t commands index start now l p
    → FollowsCommand takes (effect_of command) l k p q now new
    → Following takes text t commands (index + 1) start new k q
following_next takes text t commands index command start now new l k p q u next has h f =
    by_effect (effect_of command) refl f
  where
    unmoved : (x : LexerState) (y : Pending) → new ≡ now
        → Following takes text t commands (index + 1) start now x y
        → Following takes text t commands (index + 1) start new x y
    unmoved x y same g = subst (λ s. Following takes text t commands (index + 1) start s x y) (sym same) g

    by_effect : (effect : Effect) → effect_of command ≡ effect → FollowsCommand takes effect l k p q now new
        → Following takes text t commands (index + 1) start new k q
    by_effect (Reads goal) is g =
        follows_on takes text t commands index command goal start now new l k p q u next has is h g
    by_effect (Peeks goal) is g =
        unmoved k q g.2
        (subst (λ y. Following takes text t commands (index + 1) start now k y) (sym g.1)
        (follows_peek takes text t commands index command goal start now l k p u next has is h g.0))
    by_effect (ReLexes goal) is g =
        unmoved k q g.1 (follows_re_lex takes text t commands index command goal start now l k p q u next has is h g.0)
    by_effect Opens is g =
        unmoved k q g.2
        (subst (λ x. Following takes text t commands (index + 1) start now x q) (sym g.1)
        (follows_open takes text t commands index command start now l p q next has is h g.0))
    by_effect Rewinds is g =
        unmoved k q g.1 (follows_back takes text t commands index command start now l k p q next has is h g.0)
    by_effect Commits is g =
        unmoved k q g.2
        (subst (λ x. Following takes text t commands (index + 1) start now x q) (sym g.1)
        (follows_commit takes text t commands index command start now l p q next has is h g.0))

-- Behind the first token.
pub following_starts : {S : Type 0} (takes : S → Taken → S → Type 0) (text : List ℕ) (t : SourceType)
    (commands : List Command) (start : S) (new : LexerState) (token : TokenParts) → IsUtf8 text
    → ReadsToken First (fresh text t false) token new
    → Following takes text t commands 0 start start new
    (record { last = record { token = token; regex = None }; waiting = []; marks = [] })
following_starts takes text t commands start new token u r =
    let old = fresh text t false in
    let row = row_made None old token None r.outcome.value new in
    let before = reader old [] [] in
    let after = reader new (row ∷ []) (token ∷ []) in
    let adds : AddsLive First None before after =
    record { row = row; reads = row_read First None old new token refl u r; rows = refl; tokens = refl } in
    record {
      rows = row ∷ [];
      tokens = token ∷ [];
      marks = [];
      in_order = order_added First None before after [] (fresh_in_order text t false) adds;
      progress =
          progress_start text t false commands (seen after [] 0) (first_added text t false before after refl adds);
      first = row;
      more = [];
      rows_are = refl;
      state = unmarked (row ∷ []);
      live = live_first row;
      handed = [];
      stands = record {
        row = row;
        waits = [];
        now = refl;
        last = record {
          token = refl;
          regex = refl;
          value = holds_value First old new.decoded token r.outcome u r.reads r.token_is r.has_value;
          ordered = rw r.token_is r.reads.text_lies.ordered;
        };
        waiting = tt;
        marks_are = tt;
      };
      taken = refl;
    }

-- Behind all commands, once all that is pending was handed over.
pub following_ends : {S : Type 0} (takes : S → Taken → S → Type 0) (text : List ℕ) (t : SourceType)
    (commands : List Command) (index : ℕ) (start now new : S) (l : LexerState) (p : Pending) → IsUtf8 text
    → length text < 2 ^ 32 → length commands ≤ index → Following takes text t commands index start now l p
    → HandsEach takes l.decoded (p.waiting ++ p.last ∷ []) now new
    → TakesSteps takes commands text t l.findings start new
following_ends takes text t commands index start now new l p u short past h hands =
    let s : SessionState = seen (reader l h.rows h.tokens) h.marks 0 in
    let report_is = progress_end text t false commands index s u short past h.progress in
    let live : LiveSoFar h.first commands h.more h.state =
    subst (λ cs. LiveSoFar h.first cs h.more h.state) (take_all index commands past) h.live in
    let rows : live_rows commands h.rows ≡ reverse h.state.now =
    ap (live_rows commands) h.rows_are ∙ live_end h.first commands h.more h.state live in
    record {
      report = report_of s;
      report_is = report_is;
      takes_each =
          subst (λ xs. TakesEach takes start xs new) (sym (ap (map taken_of) rows))
          (takes_all takes l.decoded p h.handed h.marks h.state start now new h.stands h.taken hands);
      tokens_are =
          tokens_of_taken (live_rows commands h.rows) ∙ live_tokens text t false commands (report_of s) report_is;
      found_is = refl;
    }

-- the lexer is behind its last token
pub following_behind : {S : Type 0} (takes : S → Taken → S → Type 0) (text : List ℕ) (t : SourceType)
    (commands : List Command) (index : ℕ) (start now : S) (l : LexerState) (p : Pending)
    → Following takes text t commands index start now l p → l.place ≡ (token_or_default l.last).end
following_behind takes text t commands index start now l p h =
    h.in_order.behind.place ∙ sym (ap (λ o. (token_or_default o).end) h.in_order.behind.last)

some_open : {A : Type 0} (xs : List A) → xs ≢ [] → 0 < length xs
some_open [] some = absurd (some refl)
some_open (x ∷ xs) some = omega arith

-- a command that closes a mark has one to close
pub following_marks : {S : Type 0} (takes : S → Taken → S → Type 0) (text : List ℕ) (t : SourceType)
    (commands : List Command) (index : ℕ) (command : Command) (start now : S) (l : LexerState) (p : Pending)
    → IsNext commands index command → HasMarks commands → Following takes text t commands index start now l p
    → closes command ≡ true → 0 < length p.marks
following_marks takes text t commands index command start now l p next has h is =
    let r = reader l h.rows h.tokens in
    let open_marks : HasMark command (seen r h.marks 0).state =
    has_mark text t false commands index (seen r h.marks 0) command h.progress next.here has in
    let many : 0 < length (fronts (live_now r) (reverse h.marks)) =
    some_open (fronts (live_now r) (reverse h.marks)) (open_marks is) in
    omega (
      arith,
      many,
      length_marks r h.marks,
      length-reverse h.marks,
      length-reverse p.marks,
      marks_length l.decoded h.handed h.stands.waits (length h.stands.waits) (reverse p.marks) (reverse h.marks)
          h.state.marks h.stands.marks_are,
    )

-- and the lexer may go back to the last one
pub following_back : {S : Type 0} (takes : S → Taken → S → Type 0) (text : List ℕ) (t : SourceType)
    (commands : List Command) (index : ℕ) (start now : S) (l : LexerState) (p : Pending)
    → Following takes text t commands index start now l p → MayGoBack l p.marks
following_back takes text t commands index start now l p h = λ ms m is.
    let at = stands_at l.decoded p ms m h.handed h.marks h.state is h.stands in
    subst (CanRewind l) at.holds.checkpoint
    (may_rewind (reader l h.rows h.tokens) h.marks at.others at.x at.marks_are h.in_order)

-- what is pending may be handed over
pub following_held : {S : Type 0} (takes : S → Taken → S → Type 0) (text : List ℕ) (t : SourceType)
    (commands : List Command) (index : ℕ) (start now : S) (l : LexerState) (p : Pending)
    → Following takes text t commands index start now l p → AreHeld l.decoded p
following_held takes text t commands index start now l p h =
    stands_held l.decoded p h.handed h.marks h.state h.stands
