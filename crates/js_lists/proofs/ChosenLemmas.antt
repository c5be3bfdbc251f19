-- The tokens that are chosen, each of which is handed over once it is settled.
use Rattle.std.proofs.Common.{◌≡◌, ℕ, ◌^◌, ◌<◌, true, false, List, [], ◌∷◌, ◌++◌, length, map, reverse, refl}
use Rattle.std.proofs.Common.{sym, ◌∙◌, ap, subst, arith, Some, None}
use Rattle.std.specs.List.{last_or}
use Rattle.std.specs.Str.{IsUtf8}
use Rattle.js_text.specs.Lists.{with_last}
use Rattle.js_text.specs.declared.source_type.SourceType.{SourceType}
use Rattle.js_kind.specs.TokenParts.{TokenParts}
use Rattle.js_grammar.specs.Outcome.{Findings}
use Rattle.js_grammar.specs.Reads.{is_onward}
use Rattle.js_grammar.specs.ReLexed.{fits}
use Rattle.js_grammar.specs.declared.goal.Goal.{Goal}
use Rattle.js_grammar.specs.declared.goal.Goal.TheVariants.{First}
use Rattle.js_lexer.specs.Lexer.{IsOnPlaces, LexerState, ReadsToken, fresh, token_or_default}
use Rattle.js_session.specs.Effects.{effect_of}
use Rattle.js_session.specs.declared.command.Effect.{Effect}
use Rattle.js_session.specs.declared.command.Effect.TheVariants.{Reads, ReLexes}
use Rattle.js_session.specs.RowReader.{AddsLive, RowReaderState}
use Rattle.js_session.specs.Session.{AddsRow, SessionState, report_of}
use Rattle.js_session.specs.RowReader.{ReadsAgainAs}
use Rattle.js_session.specs.declared.command.Command.{Command}
use Rattle.js_session.specs.declared.row.Row.{Row}
use Rattle.js_session.proofs.StepLemmas.{first_added, order_added, seen}
use Rattle.js_choose.specs.Rules.{IsDue, IsRule, ReportBy, Rule}
use Rattle.js_choose.specs.Rules.IsDue.{reads_on, reads_again}
use Rattle.js_choose.proofs.ChosenLemmas.{due_is_step}
use Rattle.js_choose.proofs.SessionLemmas.{Goes, goes_end, goes_less, goes_on, goes_start, left_from, left_of}
use Rattle.js_lists.specs.Drive.{Drives, Follows, FollowsAgain, FollowsOn, HandsOver, IsHeld, MayFollow, TakesTokens}
use Rattle.js_lists.specs.LiveLists.{TakesChosen, taken_of}
use Rattle.js_lists.specs.LiveRows.{live_rows}
use Rattle.js_lists.specs.Taken.{Taken, TakesEach}
use Rattle.js_session.specs.declared.re_lex.LastRead.{LastRead}
use Rattle.js_lists.proofs.DriveLemmas.{StepsTo, drives_seen, handed_row, held_row, step_again, step_on}
use Rattle.js_lists.proofs.ReaderSteps.{HoldsLast, fresh_in_order}
use Rattle.js_lists.proofs.LiveLemmas.{live_tokens}
use Rattle.js_lists.proofs.LiveSoFar.{LiveSoFar, live_again, live_end, live_first, live_on, unmarked}
use Rattle.js_lists.proofs.RowLemmas.{holds_value, row_made, row_read}
use Rattle.js_lists.proofs.TakenLemmas.{backward_more, taken_backward, takes_more, tokens_of_taken}

-- how much is left of the text of a lexer from the start of its last token on
abbrev pub left : LexerState → ℕ
left l = left_from l.text (token_or_default l.last)

-- The steps so far were chosen: they are live in a session for which the lexer stands, and whose chooser was told its
-- tokens. The tokens of the live rows were taken, but for that of the last one, which is held back.
pub record Reading {S : Type 0} (takes : S → Taken → S → Type 0) (rule : Rule) (told : List TokenParts → Type 0)
    (text : List ℕ) (t : SourceType) (start now : S) (l : LexerState) (last : LastRead) : Type 0 where
  pub session : SessionState
  pub drives : Drives session l
  pub is_told : told session.state.now.tokens
  pub commands : List Command
  pub goes : Goes rule text t false commands session
  pub first : Row
  pub rows : List Row
  pub rows_are : session.rows ≡ first ∷ rows
  pub row : Row
  pub before : List Row
  pub live : LiveSoFar first commands rows (unmarked (row ∷ before))
  pub holds : HoldsLast l.decoded row last
  pub taken : TakesEach takes start (taken_backward before) now

-- Behind the first token.
pub reading_starts : {S : Type 0} (takes : S → Taken → S → Type 0) (rule : Rule) (told : List TokenParts → Type 0)
    (text : List ℕ) (t : SourceType) (start : S) (new : LexerState) (last : LastRead) → IsUtf8 text
    → ReadsToken First (fresh text t false) last.token new → last.regex ≡ None → told (last.token ∷ [])
    → Reading takes rule told text t start start new last
reading_starts takes rule told text t start new last u r none is_told =
    let old = fresh text t false in
    let token = last.token in
    let row = row_made None old token None r.outcome.value new in
    let before : RowReaderState = record { lexer = old; rows = []; tokens = [] } in
    let after : RowReaderState = record { lexer = new; rows = row ∷ []; tokens = token ∷ [] } in
    let adds : AddsLive First None before after =
    record { row = row; reads = row_read First None old new token refl u r; rows = refl; tokens = refl } in
    record {
      session = seen after [] 0;
      drives =
          drives_seen after 0 (subst IsUtf8 (sym r.after.text) u)
          (order_added First None before after [] (fresh_in_order text t false) adds);
      is_told = is_told;
      commands = [];
      goes = goes_start rule text t false (seen after [] 0) u (first_added text t false before after refl adds);
      first = row;
      rows = [];
      rows_are = refl;
      row = row;
      before = [];
      live = live_first row;
      holds =
          record {
            token = refl;
            regex = sym none;
            value = holds_value First old new.decoded token r.outcome u r.reads r.token_is r.has_value;
            ordered = rw r.token_is r.reads.text_lies.ordered;
          };
      taken = refl;
    }

same_effect : (a b : Goal) (e : Effect) → e ≡ Reads a → e ≡ Reads b → a ≡ b
same_effect a b e h g = let same : Reads a ≡ Reads b = sym h ∙ g in cc

same_again : (a b : Goal) (e : Effect) → e ≡ ReLexes a → e ≡ ReLexes b → a ≡ b
same_again a b e h g = let same : ReLexes a ≡ ReLexes b = sym h ∙ g in cc

-- a goal that reads on is one
pub due_onward : (text : List ℕ) (tokens : List TokenParts) (command : Command) (goal : Goal)
    → IsDue text tokens command → effect_of command ≡ Reads goal → (is_onward goal ≡ true) × (¬ (goal ≡ First))
due_onward text tokens command goal (reads_on other effect onward later may) is =
    let same : other ≡ goal = same_effect other goal (effect_of command) effect is in
    (subst (λ g. is_onward g ≡ true) same onward, subst (λ g. ¬ (g ≡ First)) same later)
due_onward text tokens command goal (reads_again other effect final last is_last fit) is =
    absurd (let no : ReLexes other ≡ Reads goal = sym effect ∙ is in cc)

-- the last token fits a goal that reads it again
pub due_again : (text : List ℕ) (tokens : List TokenParts) (command : Command) (goal : Goal) (l : LexerState)
    → IsDue text tokens command → effect_of command ≡ ReLexes goal → IsUtf8 text → l.text ≡ text
    → l.last ≡ last_or None tokens
    → ((last : TokenParts) → last_or None tokens ≡ Some last → IsOnPlaces text last)
    → fits l.text goal (token_or_default l.last) ≡ true
due_again text tokens command goal l (reads_on other effect onward later may) is u texts lasts lie =
    absurd (let no : Reads other ≡ ReLexes goal = sym effect ∙ is in cc)
due_again text tokens command goal l (reads_again other effect final last is_last fit) is u texts lasts lie =
    let same : other ≡ goal = same_again other goal (effect_of command) effect is in
    ap (λ x. fits x goal (token_or_default l.last)) texts
    ∙ ap (λ o. fits text goal (token_or_default o)) (lasts ∙ is_last) ∙ ap (λ g. fits text g last) (sym same)
    ∙ fit u (lie last is_last)

-- the last live token lies on places
last_lies : (rule : Rule) (text : List ℕ) (t : SourceType) (commands : List Command) (s : SessionState)
    → Goes rule text t false commands s → (last : TokenParts) → last_or None s.state.now.tokens ≡ Some last
    → IsOnPlaces text last
last_lies rule text t commands s goes last is =
    let same : last ≡ goes.last.last = let e : Some last ≡ Some goes.last.last = sym is ∙ goes.last.is_last in cc in
    subst (IsOnPlaces text) (sym same) goes.last.lies

-- The same of what is chosen for the session of a reading.
pub reading_due_again : {S : Type 0} (takes : S → Taken → S → Type 0) (rule : Rule) (told : List TokenParts → Type 0)
    (text : List ℕ) (t : SourceType) (start now : S) (l : LexerState) (last : LastRead) (command : Command)
    (goal : Goal) → IsRule rule → IsUtf8 text → (h : Reading takes rule told text t start now l last)
    → rule text h.session.state.now.tokens ≡ Some command → effect_of command ≡ ReLexes goal
    → fits l.text goal (token_or_default l.last) ≡ true
reading_due_again takes rule told text t start now l last command goal law u h chosen effect =
    due_again text h.session.state.now.tokens command goal l (law text h.session.state.now.tokens command chosen) effect
    u (h.drives.text ∙ h.goes.text_is) h.drives.last (last_lies rule text t h.commands h.session h.goes)

-- the lexer is behind its last token
pub reading_behind : {S : Type 0} (takes : S → Taken → S → Type 0) (rule : Rule) (told : List TokenParts → Type 0)
    (text : List ℕ) (t : SourceType) (start now : S) (l : LexerState) (last : LastRead)
    → Reading takes rule told text t start now l last → l.place ≡ (token_or_default l.last).end
reading_behind takes rule told text t start now l last h =
    h.drives.place ∙ sym (ap (λ o. (token_or_default o).end) h.drives.last)

rows_more : (old new : SessionState) (command : Command) (first : Row) (rows : List Row) → (a : AddsRow command old new)
    → old.rows ≡ first ∷ rows → new.rows ≡ first ∷ (rows ++ a.row ∷ [])
rows_more old new command first rows a is = ap (λ x. x.rows) a.after ∙ ap (λ rs. rs ++ a.row ∷ []) is

-- A step that reads on, once the last token was handed over.
pub reading_on : {S : Type 0} (takes : S → Taken → S → Type 0) (rule : Rule) (told new_told : List TokenParts → Type 0)
    (text : List ℕ) (t : SourceType) (start now new : S) (l k : LexerState) (last next : LastRead) (command : Command)
    (goal : Goal) → IsRule rule → IsUtf8 text → (h : Reading takes rule told text t start now l last)
    → rule text h.session.state.now.tokens ≡ Some command → effect_of command ≡ Reads goal
    → HandsOver takes l.decoded last now new → ReadsToken goal l next.token k → next.regex ≡ None
    → ((tokens : List TokenParts) → told tokens → new_told (tokens ++ next.token ∷ []))
    → Reading takes rule new_told text t start new k next
reading_on takes rule told new_told text t start now new l k last next command goal law u h chosen effect o r none
    tell =
    let s = h.session in
    let due = law text s.state.now.tokens command chosen in
    let onward = (due_onward text s.state.now.tokens command goal due effect).0 in
    let to = step_on goal command l k next effect onward r none s h.drives in
    let step = due_is_step text s.state.now.tokens command due in
    record {
      session = to.session;
      drives = to.drives;
      is_told = subst new_told (sym to.tokens_are) (tell s.state.now.tokens h.is_told);
      commands = h.commands ++ command ∷ [];
      goes = goes_on rule law text t false h.commands s to.session command u h.goes chosen to.adds;
      first = h.first;
      rows = h.rows ++ to.adds.row ∷ [];
      rows_are = rows_more s to.session command h.first h.rows to.adds h.rows_are;
      row = to.adds.row;
      before = h.row ∷ h.before;
      live = live_on h.first h.commands h.rows (h.row ∷ h.before) command goal to.adds.row effect step h.live;
      holds = to.holds;
      taken =
          subst (λ xs. TakesEach takes start xs new) (backward_more h.row h.before)
          (takes_more takes (taken_backward h.before) (taken_of h.row) start now new h.taken
          (handed_row takes l.decoded now new h.row last h.holds o));
    }

-- A step that reads the last token again.
pub reading_again : {S : Type 0} (takes : S → Taken → S → Type 0) (rule : Rule)
    (told new_told : List TokenParts → Type 0) (text : List ℕ) (t : SourceType) (start now : S) (l k : LexerState)
    (last next : LastRead) (command : Command) (goal : Goal) → IsRule rule → IsUtf8 text
    → (h : Reading takes rule told text t start now l last)
    → rule text h.session.state.now.tokens ≡ Some command → effect_of command ≡ ReLexes goal
    → ReadsAgainAs goal l next k
    → ((tokens : List TokenParts) → told tokens → new_told (with_last tokens next.token))
    → Reading takes rule new_told text t start now k next
reading_again takes rule told new_told text t start now l k last next command goal law u h chosen effect r tell =
    let s = h.session in
    let due = law text s.state.now.tokens command chosen in
    let fit = reading_due_again takes rule told text t start now l last command goal law u h chosen effect in
    let to = step_again goal command l k next effect fit r s h.drives in
    let step = due_is_step text s.state.now.tokens command due in
    record {
      session = to.session;
      drives = to.drives;
      is_told = subst new_told (sym to.tokens_are) (tell s.state.now.tokens h.is_told);
      commands = h.commands ++ command ∷ [];
      goes = goes_on rule law text t false h.commands s to.session command u h.goes chosen to.adds;
      first = h.first;
      rows = h.rows ++ to.adds.row ∷ [];
      rows_are = rows_more s to.session command h.first h.rows to.adds h.rows_are;
      row = to.adds.row;
      before = h.before;
      live = live_again h.first h.commands h.rows h.before h.row command goal to.adds.row effect step to.taken h.live;
      holds = to.holds;
      taken = h.taken;
    }

-- Behind the last token, where no command is chosen.
pub reading_ends : {S : Type 0} (takes : S → Taken → S → Type 0) (rule : Rule) (told : List TokenParts → Type 0)
    (text : List ℕ) (t : SourceType) (start now new : S) (l : LexerState) (last : LastRead) → IsRule rule → IsUtf8 text
    → length text < 2 ^ 32 → (h : Reading takes rule told text t start now l last)
    → rule text h.session.state.now.tokens ≡ None → HandsOver takes l.decoded last now new
    → TakesTokens takes rule text t l.findings start new
reading_ends takes rule told text t start now new l last law u short h stops o =
    let s = h.session in
    let report_is = goes_end rule law text t false h.commands s u short h.goes stops in
    let rows : live_rows h.commands s.rows ≡ reverse (h.row ∷ h.before) =
    ap (live_rows h.commands) h.rows_are ∙ live_end h.first h.commands h.rows (unmarked (h.row ∷ h.before)) h.live in
    record {
      commands = h.commands;
      report = report_of s;
      report_is = report_is;
      takes_each =
          subst (λ xs. TakesEach takes start xs new)
          (backward_more h.row h.before ∙ sym (ap (map taken_of) rows))
          (takes_more takes (taken_backward h.before) (taken_of h.row) start now new h.taken
          (handed_row takes l.decoded now new h.row last h.holds o));
      tokens_are =
          tokens_of_taken (live_rows h.commands s.rows)
          ∙ live_tokens text t false h.commands (report_of s) report_is.report_is;
      found_is = h.drives.findings;
    }

-- Less is left behind each step.
reading_less : {S : Type 0} (takes : S → Taken → S → Type 0) (rule : Rule) (told : List TokenParts → Type 0)
    (text : List ℕ) (t : SourceType) (start now : S) (l k : LexerState) (last next : LastRead) (command : Command)
    (tokens : List TokenParts) → IsRule rule → IsUtf8 text → (h : Reading takes rule told text t start now l last)
    → rule text h.session.state.now.tokens ≡ Some command → StepsTo command h.session k next tokens
    → left k < left l
reading_less takes rule told text t start now l k last next command tokens law u h chosen to =
    let s = h.session in
    less_alike (left l) (left_of text s.state.now.tokens) (left k) (left_of text to.session.state.now.tokens)
    (left_is text s l h.drives h.goes.text_is)
    (left_is text to.session k to.drives (ap (λ x. x.text) to.adds.after ∙ h.goes.text_is))
    (goes_less rule law text t false h.commands s to.session command u h.goes chosen to.adds)
  where
    less_alike : (a b c d : ℕ) → a ≡ b → c ≡ d → d < b → c < a
    less_alike a b c d was is less = omega arith

    left_is : (text : List ℕ) (s : SessionState) (l : LexerState) → Drives s l → s.text ≡ text
        → left l ≡ left_of text s.state.now.tokens
    left_is text s l h is =
        ap (λ x. left_from x (token_or_default l.last)) (h.text ∙ is)
        ∙ ap (λ o. left_from text (token_or_default o)) h.last

-- the lexer may follow what is chosen
pub reading_may : {S : Type 0} (takes : S → Taken → S → Type 0) (rule : Rule) (told : List TokenParts → Type 0)
    (text : List ℕ) (t : SourceType) (start now : S) (l : LexerState) (last : LastRead) (command : Command)
    → IsRule rule → IsUtf8 text → (h : Reading takes rule told text t start now l last)
    → rule text h.session.state.now.tokens ≡ Some command → MayFollow (effect_of command) l
reading_may takes rule told text t start now l last command law u h chosen =
    by_due (law text h.session.state.now.tokens command chosen)
  where
    by_due : IsDue text h.session.state.now.tokens command → MayFollow (effect_of command) l
    by_due (reads_on goal effect onward later may) = subst (λ e. MayFollow e l) (sym effect) (onward, later)
    by_due (reads_again goal effect final other is_last fit) =
        let fits_it = reading_due_again takes rule told text t start now l last command goal law u h chosen effect in
        subst (λ e. MayFollow e l) (sym effect)
        (reading_behind takes rule told text t start now l last h, fits_it)

-- the token that is held back may be handed over
pub reading_held : {S : Type 0} (takes : S → Taken → S → Type 0) (rule : Rule) (told : List TokenParts → Type 0)
    (text : List ℕ) (t : SourceType) (start now : S) (l : LexerState) (last : LastRead)
    → Reading takes rule told text t start now l last → IsHeld l.decoded last
reading_held takes rule told text t start now l last h = held_row l.decoded h.row last h.holds

-- a command that was chosen was followed
pub reading_follows : {S G : Type 0} (takes : S → Taken → S → Type 0) (is_told : G → List TokenParts → Type 0)
    (rule : Rule) (text : List ℕ) (t : SourceType) (start now new : S) (l k : LexerState) (c d : G)
    (last next : LastRead) (command : Command) → IsRule rule → IsUtf8 text
    → (h : Reading takes rule (is_told c) text t start now l last)
    → rule text h.session.state.now.tokens ≡ Some command
    → Follows takes is_told (effect_of command) last next l k c d now new
    → Reading takes rule (is_told d) text t start new k next
reading_follows takes is_told rule text t start now new l k c d last next command law u h chosen follows =
    by_due (law text h.session.state.now.tokens command chosen)
  where
    by_due : IsDue text h.session.state.now.tokens command → Reading takes rule (is_told d) text t start new k next
    by_due (reads_on goal effect onward later may) =
        let f : FollowsOn takes is_told goal last next l k c d now new =
        subst (λ e. Follows takes is_told e last next l k c d now new) effect follows in
        reading_on takes rule (is_told c) (is_told d) text t start now new l k last next command goal law u h chosen
        effect f.taken f.reads f.regex f.told
    by_due (reads_again goal effect final other is_last fit) =
        let f : FollowsAgain is_told goal next l k c d now new =
        subst (λ e. Follows takes is_told e last next l k c d now new) effect follows in
        subst (λ n. Reading takes rule (is_told d) text t start n k next) (sym f.untaken)
        (reading_again takes rule (is_told c) (is_told d) text t start now l k last next command goal law u h chosen
        effect f.reads f.told)

-- and less is left behind it
pub reading_falls : {S G : Type 0} (takes : S → Taken → S → Type 0) (is_told : G → List TokenParts → Type 0)
    (rule : Rule) (text : List ℕ) (t : SourceType) (start now new : S) (l k : LexerState) (c d : G)
    (last next : LastRead) (command : Command) → IsRule rule → IsUtf8 text
    → (h : Reading takes rule (is_told c) text t start now l last)
    → rule text h.session.state.now.tokens ≡ Some command
    → Follows takes is_told (effect_of command) last next l k c d now new → left k < left l
reading_falls takes is_told rule text t start now new l k c d last next command law u h chosen follows =
    by_due (law text h.session.state.now.tokens command chosen)
  where
    by_due : IsDue text h.session.state.now.tokens command → left k < left l
    by_due (reads_on goal effect onward later may) =
        let f : FollowsOn takes is_told goal last next l k c d now new =
        subst (λ e. Follows takes is_told e last next l k c d now new) effect follows in
        reading_less takes rule (is_told c) text t start now l k last next command
        (h.session.state.now.tokens ++ next.token ∷ []) law u h chosen
        (step_on goal command l k next effect onward f.reads f.regex h.session h.drives)
    by_due (reads_again goal effect final other is_last fit) =
        let f : FollowsAgain is_told goal next l k c d now new =
        subst (λ e. Follows takes is_told e last next l k c d now new) effect follows in
        let fits_it =
        reading_due_again takes rule (is_told c) text t start now l last command goal law u h chosen effect in
        reading_less takes rule (is_told c) text t start now l k last next command
        (with_last h.session.state.now.tokens next.token) law u h chosen
        (step_again goal command l k next effect fits_it f.reads h.session h.drives)

-- The tokens were taken, and then what was found.
pub takes_chosen : {S : Type 0} (takes : S → Taken → S → Type 0) (ends : S → Findings → S → Type 0) (rule : Rule)
    (text : List ℕ) (t u : SourceType) (found given : Findings) (old behind new : S) → u ≡ t → given ≡ found
    → TakesTokens takes rule text u found old behind → ends behind given new
    → TakesChosen takes ends rule text t old new
takes_chosen takes ends rule text t u found given old behind new types is h ended = record {
  commands = h.commands;
  report = h.report;
  report_is = subst (λ x. ReportBy rule text x false h.commands h.report) types h.report_is;
  taken = record {
    behind = behind;
    takes_each = h.takes_each;
    after = subst (λ f. ends behind f new) (is ∙ h.found_is) ended;
    tokens_are = h.tokens_are;
  };
}
