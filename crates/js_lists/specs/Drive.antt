-- A lexer that is driven by the goals that are chosen stands for a session, though no rows are made.
use Rattle.std.specs.Prelude.{◌≡◌, ◌≤◌, ℕ, true, false, List, [], ◌∷◌, ◌++◌, map, None}
use Rattle.std.specs.Str.{IsUtf8}
use Rattle.js_text.specs.Lists.{with_last}
use Rattle.js_text.specs.declared.source_type.SourceType.{SourceType}
use Rattle.js_text.specs.declared.value.RowValue.{RowValue}
use Rattle.js_reader.specs.Decoded.{Values}
use Rattle.js_grammar.specs.Outcome.{Findings}
use Rattle.js_grammar.specs.Reads.{is_onward}
use Rattle.js_grammar.specs.ReLexed.{fits}
use Rattle.js_grammar.specs.TokenText.{text_end, text_start}
use Rattle.js_grammar.specs.declared.goal.Goal.{Goal}
use Rattle.js_grammar.specs.declared.goal.Goal.TheVariants.{First}
use Rattle.js_kind.specs.Kinds.{is_template_kind}
use Rattle.js_kind.specs.TokenParts.{TokenParts}
use Rattle.js_lexer.specs.Lexer.{LexerState, ReadsToken, token_or_default}
use Rattle.js_session.specs.Live.{last_live, place_behind_last}
use Rattle.js_session.specs.Report.{all_collected}
use Rattle.js_session.specs.RowReader.{HoldsValue, IsKept, ReadsAgainAs}
use Rattle.js_session.specs.Session.{LieOnPlaces, SessionState}
use Rattle.js_session.specs.declared.command.Command.{Command}
use Rattle.js_session.specs.declared.command.Effect.{Effect}
use Rattle.js_session.specs.declared.command.Effect.TheVariants.{Reads, Peeks, ReLexes, Opens, Rewinds, Commits}
use Rattle.js_session.specs.declared.report.Report.{Report}
use Rattle.js_choose.specs.Rules.{ReportBy, Rule}
use Rattle.js_lists.specs.LiveLists.{live_found, live_taken}
use Rattle.js_lists.specs.Taken.{Taken, TakesEach}
use Rattle.js_session.specs.declared.re_lex.LastRead.{LastRead}

-- The lexer stands for the session: it is behind the last live token, and has found what is live. No mark is open.
pub record Drives (s : SessionState) (l : LexerState) : Type 0 where
  pub text : l.text ≡ s.text
  pub source_type : l.source_type ≡ s.source_type
  pub collects : l.collects ≡ s.collects
  pub place : l.place ≡ place_behind_last s.state.now
  pub last : l.last ≡ last_live s.state.now
  pub tokens : l.tokens ≡ all_collected s.collects s.state.now.tokens
  pub findings : l.findings ≡ s.state.now.findings
  pub unmarked : s.state.marks ≡ []
  pub utf8 : IsUtf8 s.text
  pub places : LieOnPlaces s

-- The token was taken, with the value that it has and with what is known of it as a regular expression.
pub record HandsOver {S : Type 0} (takes : S → Taken → S → Type 0) (decoded : Values) (last : LastRead) (old new : S)
    : Type 0 where
  pub value : RowValue
  pub holds : HoldsValue decoded last.token value
  pub taken : takes old (record { token = last.token; value = value; regex = last.regex }) new

-- What is held back of the last token may be handed over: its value is kept, if it was decoded.
pub record IsHeld (decoded : Values) (last : LastRead) : Type 0 where
  pub ordered : text_start last.token.kind last.token.start ≤ text_end last.token.kind last.token.end
  pub kept : last.token.escaped ≡ true → IsKept (is_template_kind last.token.kind) decoded last.token.start

-- the lexer may follow an effect: it reads on, or reads again where the last token fits the goal
abbrev pub MayFollow : Effect → LexerState → Type 0
MayFollow (Reads goal) l = (is_onward goal ≡ true) × (¬ (goal ≡ First))
MayFollow (Peeks goal) l = ⊥
MayFollow (ReLexes goal) l =
    (l.place ≡ (token_or_default l.last).end) × (fits l.text goal (token_or_default l.last) ≡ true)
MayFollow Opens l = ⊥
MayFollow Rewinds l = ⊥
MayFollow Commits l = ⊥

-- The last token was handed over, and the next one was read and told to the chooser.
pub record FollowsOn {S G : Type 0} (takes : S → Taken → S → Type 0) (is_told : G → List TokenParts → Type 0)
    (goal : Goal) (last next : LastRead) (l k : LexerState) (c d : G) (old new : S) : Type 0 where
  pub taken : HandsOver takes l.decoded last old new
  pub reads : ReadsToken goal l next.token k
  pub regex : next.regex ≡ None
  pub told : (tokens : List TokenParts) → is_told c tokens → is_told d (tokens ++ next.token ∷ [])

-- The last token was read again, and the chooser was told; nothing was taken.
pub record FollowsAgain {S G : Type 0} (is_told : G → List TokenParts → Type 0) (goal : Goal) (next : LastRead)
    (l k : LexerState) (c d : G) (old new : S) : Type 0 where
  pub untaken : new ≡ old
  pub reads : ReadsAgainAs goal l next k
  pub told : (tokens : List TokenParts) → is_told c tokens → is_told d (with_last tokens next.token)

-- an effect was followed
abbrev pub Follows : {S G : Type 0} (takes : S → Taken → S → Type 0) (is_told : G → List TokenParts → Type 0) → Effect
    → LastRead → LastRead → LexerState → LexerState → G → G → S → S → Type 0
Follows takes is_told (Reads goal) last next l k c d old new =
    FollowsOn takes is_told goal last next l k c d old new
Follows takes is_told (Peeks goal) last next l k c d old new = ⊥
Follows takes is_told (ReLexes goal) last next l k c d old new = FollowsAgain is_told goal next l k c d old new
Follows takes is_told Opens last next l k c d old new = ⊥
Follows takes is_told Rewinds last next l k c d old new = ⊥
Follows takes is_told Commits last next l k c d old new = ⊥

-- The live tokens of the report of a text whose goals a rule chooses were taken, and this is what was found.
pub record TakesTokens {S : Type 0} (takes : S → Taken → S → Type 0) (rule : Rule) (text : List ℕ) (t : SourceType)
    (found : Findings) (old new : S) : Type 0 where
  pub commands : List Command
  pub report : Report
  pub report_is : ReportBy rule text t false commands report
  pub takes_each : TakesEach takes old (live_taken commands report.rows) new
  pub tokens_are : map (λ x. x.token) (live_taken commands report.rows) ≡ report.tokens
  pub found_is : found ≡ live_found report
