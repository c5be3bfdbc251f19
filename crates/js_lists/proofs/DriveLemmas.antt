-- A lexer that is driven makes the steps of a session.
use Rattle.std.proofs.Common.{◌≡◌, ℕ, Bool, true, false, List, [], ◌∷◌}
use Rattle.std.proofs.Common.{◌++◌, refl, sym, ◌∙◌, ap, subst, Option, Some, None}
use Rattle.std.specs.List.{AllByRecursion}
use Rattle.std.specs.Prelude.{is_some}
use Rattle.std.specs.Str.{IsUtf8}
use Rattle.js_text.specs.Lists.{with_last}
use Rattle.js_text.specs.declared.value.RowValue.{RowValue}
use Rattle.js_kind.specs.Kinds.{is_template_kind}
use Rattle.js_kind.specs.TokenParts.{TokenParts}
use Rattle.js_grammar.specs.Reads.{is_onward}
use Rattle.js_grammar.specs.ReLexed.{fits}
use Rattle.js_grammar.specs.declared.goal.Goal.{Goal}
use Rattle.js_grammar.specs.declared.goal.Goal.TheVariants.{Next as NextGoal}
use Rattle.js_reader.specs.Decoded.{Values, value_of}
use Rattle.js_lexer.specs.Lexer.{IsOnPlaces, LexerState, ReadsToken, token_or_default}
use Rattle.js_session.specs.Effects.{effect_of}
use Rattle.js_session.specs.declared.command.Effect.TheVariants.{Reads, ReLexes}
use Rattle.js_session.specs.Live.{State}
use Rattle.js_session.specs.Marks.{IsInOrder, live_now, state_of}
use Rattle.js_session.specs.Report.{LiesOnPlaces, all_collected}
use Rattle.js_session.specs.RowReader.{HoldsKept, HoldsPart, HoldsUnits, HoldsValue, IsKept, RowReaderState}
use Rattle.js_session.specs.Session.{AddsRow, SessionState}
use Rattle.js_session.specs.declared.command.Command.{Command}
use Rattle.js_session.specs.declared.command.Command.TheVariants.{Next, JsxChild, JsxAttr, Regex, TemplateTail}
use Rattle.js_session.specs.declared.command.Command.TheVariants.{JsxName, RAngle, TsLAngle, TsRAngle, Peek}
use Rattle.js_session.specs.declared.command.Command.TheVariants.{Mark, Rewind, Commit}
use Rattle.js_session.specs.declared.row.Row.{Row}
use Rattle.js_session.proofs.LiveLemmas.{same_live}
use Rattle.js_session.proofs.StepLemmas.{in_order_lies, seen}
use Rattle.js_session.specs.RowReader.{ReadsAgainAs}
use Rattle.js_lists.specs.Drive.{Drives, HandsOver, IsHeld}
use Rattle.js_lists.specs.LiveLists.{taken_of}
use Rattle.js_lists.specs.Taken.{Taken}
use Rattle.js_session.specs.declared.re_lex.LastRead.{LastRead}
use Rattle.js_lists.proofs.ReaderSteps.{HoldsLast, StepsLive, reader_with, reads_again, reads_on, row_added}

pub same_state : (a b : State) → a.now ≡ b.now → a.marks ≡ b.marks → a ≡ b
same_state a b e1 e2 = rw (e1, e2) refl

pub same_session : (a b : SessionState) → a.text ≡ b.text → a.source_type ≡ b.source_type → a.collects ≡ b.collects
    → a.rows ≡ b.rows → a.state ≡ b.state → a.spare ≡ b.spare → a ≡ b
same_session a b e1 e2 e3 e4 e5 e6 = rw (e1, e2, e3, e4, e5, e6) refl

-- The session has one row more, whose token is the last one that was read, and these are the live tokens now.
pub record StepsTo (command : Command) (s : SessionState) (new : LexerState) (last : LastRead)
    (tokens : List TokenParts) : Type 0 where
  pub session : SessionState
  pub adds : AddsRow command s session
  pub drives : Drives session new
  pub tokens_are : session.state.now.tokens ≡ tokens
  pub taken : adds.row.taken ≡ true
  pub holds : HoldsLast new.decoded adds.row last

-- what reads the rows of a session with this lexer
abbrev pub reader_of : SessionState → LexerState → RowReaderState
reader_of s l = record { lexer = l; rows = s.rows; tokens = s.state.now.tokens }

-- a session without a mark is that of its reader
seen_is : (s : SessionState) (l : LexerState) → Drives s l → seen (reader_of s l) [] s.spare ≡ s
seen_is s l h =
    let reader = reader_of s l in
    let now : live_now reader ≡ s.state.now = same_live (live_now reader) s.state.now refl h.findings in
    same_session (seen reader [] s.spare) s h.text h.source_type h.collects refl
    (same_state (state_of (live_now reader) []) s.state now (sym h.unmarked)) refl

reader_in_order : (s : SessionState) (l : LexerState) → Drives s l → IsInOrder (reader_of s l) []
reader_in_order s l h = record {
  behind = record {
    text = refl;
    source_type = refl;
    collects = refl;
    place = h.place;
    last = h.last;
    tokens = h.tokens ∙ ap (λ b. all_collected b s.state.now.tokens) (sym h.collects);
    findings = refl;
  };
  are_marks = tt;
  rows_lie = subst (λ x. AllByRecursion (LiesOnPlaces x) s.rows) (sym h.text) h.places.rows;
  tokens_lie = subst (λ x. AllByRecursion (IsOnPlaces x) s.state.now.tokens) (sym h.text) h.places.tokens;
}

-- a reader that is in order stands for its session
pub drives_seen : (r : RowReaderState) (spare : ℕ) → IsUtf8 r.lexer.text → IsInOrder r []
    → Drives (seen r [] spare) r.lexer
drives_seen r spare u in_order = record {
  text = refl;
  source_type = refl;
  collects = refl;
  place = in_order.behind.place;
  last = in_order.behind.last;
  tokens = in_order.behind.tokens;
  findings = refl;
  unmarked = refl;
  utf8 = u;
  places = in_order_lies r [] [] spare in_order;
}

-- the row of a step, by what a session tells of it
steps_to : (command : Command) (s : SessionState) (old new : LexerState) (last : LastRead) (tokens : List TokenParts)
    → Drives s old → IsUtf8 new.text → StepsLive command (reader_of s old) [] s.spare new last tokens
    → StepsTo command s new last tokens
steps_to command s old new last tokens h u live =
    let after = reader_with (reader_of s old) new live.row tokens in
    let adds : AddsRow command s (seen after [] s.spare) =
    subst (λ x. AddsRow command x (seen after [] s.spare)) (seen_is s old h) live.steps.adds in
    let same : live.row ≡ adds.row = row_added command s (seen after [] s.spare) live.row adds refl in
    record {
      session = seen after [] s.spare;
      adds = adds;
      drives = drives_seen after s.spare u live.steps.in_order;
      tokens_are = refl;
      taken = subst (λ (x : Row). x.taken ≡ true) same live.taken;
      holds = subst (λ r. HoldsLast new.decoded r last) same live.holds;
    }

-- A token that was read on.
pub step_on : (goal : Goal) (command : Command) (old new : LexerState) (last : LastRead)
    → effect_of command ≡ Reads goal → is_onward goal ≡ true → ReadsToken goal old last.token new → last.regex ≡ None
    → (s : SessionState) → Drives s old → StepsTo command s new last (s.state.now.tokens ++ last.token ∷ [])
step_on goal command old new last effect onward r none s h =
    let u : IsUtf8 old.text = subst IsUtf8 (sym h.text) h.utf8 in
    steps_to command s old new last (s.state.now.tokens ++ last.token ∷ []) h (subst IsUtf8 (sym r.after.text) u)
    (reads_on goal command (reader_of s old) [] s.spare new last effect onward u r none (reader_in_order s old h))

-- A token that was read again, where the last one fits.
pub step_again : (goal : Goal) (command : Command) (old new : LexerState) (last : LastRead)
    → effect_of command ≡ ReLexes goal → fits old.text goal (token_or_default old.last) ≡ true
    → ReadsAgainAs goal old last new → (s : SessionState) → Drives s old
    → StepsTo command s new last (with_last s.state.now.tokens last.token)
step_again goal command old new last effect fit again s h =
    let u : IsUtf8 old.text = subst IsUtf8 (sym h.text) h.utf8 in
    steps_to command s old new last (with_last s.state.now.tokens last.token) h
    (subst IsUtf8 (sym again.reads.after.text) u)
    (reads_again goal command (reader_of s old) [] s.spare new last effect fit u again (reader_in_order s old h))

-- a value that is held is kept
kept_units : (found : Option (List ℕ)) (value : RowValue) → HoldsUnits found value → is_some found ≡ true
kept_units None value h = absurd h
kept_units (Some units) value h = refl

kept_part : (found : Option (Option (List ℕ))) (value : RowValue) → HoldsPart found value → is_some found ≡ true
kept_part None value h = absurd h
kept_part (Some units) value h = refl

kept_if_held : (template : Bool) (decoded : Values) (start : ℕ) (value : RowValue)
    → HoldsKept template decoded start value → IsKept template decoded start
kept_if_held true decoded start value h = kept_part (value_of decoded.templates start) value h
kept_if_held false decoded start value h = kept_units (value_of decoded.strings start) value h

-- a token holds one value
one_units : (found : Option (List ℕ)) (a b : RowValue) → HoldsUnits found a → HoldsUnits found b → a ≡ b
one_units None a b h g = absurd h
one_units (Some units) a b h g = h ∙ sym g

one_part : (found : Option (Option (List ℕ))) (a b : RowValue) → HoldsPart found a → HoldsPart found b → a ≡ b
one_part None a b h g = absurd h
one_part (Some units) a b h g = h ∙ sym g

one_kept : (template : Bool) (decoded : Values) (start : ℕ) (a b : RowValue) → HoldsKept template decoded start a
    → HoldsKept template decoded start b → a ≡ b
one_kept true decoded start a b h g = one_part (value_of decoded.templates start) a b h g
one_kept false decoded start a b h g = one_units (value_of decoded.strings start) a b h g

one_value : (decoded : Values) (token : TokenParts) (a b : RowValue) → HoldsValue decoded token a
    → HoldsValue decoded token b → a ≡ b
one_value decoded token a b h g = by_flag token.escaped refl
  where
    by_flag : (escaped : Bool) → token.escaped ≡ escaped → a ≡ b
    by_flag true e = one_kept (is_template_kind token.kind) decoded token.start a b (h.escaped e) (g.escaped e)
    by_flag false e = h.unescaped e ∙ sym (g.unescaped e)

-- what was handed over is the token of its row
pub handed_row : {S : Type 0} (takes : S → Taken → S → Type 0) (decoded : Values) (now new : S) (row : Row)
    (last : LastRead) → HoldsLast decoded row last → HandsOver takes decoded last now new
    → takes now (taken_of row) new
handed_row takes decoded now new row last h o =
    let value : o.value ≡ row.value = one_value decoded last.token o.value row.value o.holds h.value in
    let same : record { token = last.token; value = o.value; regex = last.regex } ≡ taken_of row =
    same_taken (record { token = last.token; value = o.value; regex = last.regex }) (taken_of row) (sym h.token) value
    (sym h.regex) in
    subst (λ x. takes now x new) same o.taken
  where
    same_taken : (a b : Taken) → a.token ≡ b.token → a.value ≡ b.value → a.regex ≡ b.regex → a ≡ b
    same_taken a b e1 e2 e3 = rw (e1, e2, e3) refl

-- and it may be handed over
pub held_row : (decoded : Values) (row : Row) (last : LastRead) → HoldsLast decoded row last → IsHeld decoded last
held_row decoded row last h = record {
  ordered = h.ordered;
  kept = λ e. kept_if_held (is_template_kind last.token.kind) decoded last.token.start row.value (h.value.escaped e);
}

-- the plain goal is that of one command
pub plain_is_next : (command : Command) → effect_of command ≡ Reads NextGoal → command ≡ Next
plain_is_next Next e = refl
plain_is_next JsxChild e = absurd cc
plain_is_next JsxAttr e = absurd cc
plain_is_next Regex e = absurd cc
plain_is_next TemplateTail e = absurd cc
plain_is_next JsxName e = absurd cc
plain_is_next RAngle e = absurd cc
plain_is_next TsLAngle e = absurd cc
plain_is_next TsRAngle e = absurd cc
plain_is_next Peek e = absurd cc
plain_is_next Mark e = absurd cc
plain_is_next Rewind e = absurd cc
plain_is_next Commit e = absurd cc
