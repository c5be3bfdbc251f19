-- A lexer that follows commands: what waits while a mark is open, and what each command does to it.
use Rattle.std.specs.Prelude.{◌≡◌, ℕ, false, List, [], ◌∷◌, ◌++◌, length, map, take, unwrap_or, Option, None}
use Rattle.std.specs.List.{AllByRecursion}
use Rattle.js_text.specs.declared.source_type.SourceType.{SourceType}
use Rattle.js_grammar.specs.Outcome.{Findings}
use Rattle.js_grammar.specs.declared.goal.Goal.{Goal}
use Rattle.js_kind.specs.TokenParts.{TokenParts}
use Rattle.js_reader.specs.Decoded.{Values}
use Rattle.js_lexer.specs.Lexer.{CanRewind, GoesOnFrom, IsRestored, LexerState, Peeks as PeeksToken, ReadsToken}
use Rattle.js_lexer.specs.Lexer.{checkpoint_of}
use Rattle.js_session.specs.Report.{ReportOf}
use Rattle.js_session.specs.declared.command.Command.{Command}
use Rattle.js_session.specs.declared.command.Effect.{Effect}
use Rattle.js_session.specs.declared.command.Effect.TheVariants.{Reads, Peeks, ReLexes, Opens, Rewinds, Commits}
use Rattle.js_session.specs.declared.report.Report.{Report}
use Rattle.js_session.specs.RowReader.{ReadsIfFits}
use Rattle.js_lists.specs.Drive.{HandsOver, IsHeld}
use Rattle.js_lists.specs.LiveLists.{live_found, live_taken}
use Rattle.js_lists.specs.Taken.{Taken, TakesEach}
use Rattle.js_lists.specs.declared.pending.OpenMark.{OpenMark}
use Rattle.js_lists.specs.declared.pending.Pending.{Pending}
use Rattle.js_session.specs.declared.re_lex.LastRead.{LastRead}

-- All that waits, and the last token, may be handed over.
pub record AreHeld (decoded : Values) (p : Pending) : Type 0 where
  pub waiting : AllByRecursion (IsHeld decoded) p.waiting
  pub last : IsHeld decoded p.last

-- The tokens were handed over one behind the other.
abbrev pub HandsEach : {S : Type 0} (takes : S → Taken → S → Type 0) → Values → List LastRead → S → S → Type 0
HandsEach {S} takes decoded [] old new = new ≡ old
HandsEach {S} takes decoded (x ∷ xs) old new =
    (mid : S) × HandsOver takes decoded x old mid × HandsEach takes decoded xs mid new

-- The last token is settled: it was handed over behind all that waited; or waits behind that, where these marks are open.
abbrev pub Settles : {S : Type 0} (takes : S → Taken → S → Type 0) → Values → List OpenMark → Pending → Pending → S → S
    → Type 0
Settles {S} takes decoded [] p q old new =
    HandsEach takes decoded (p.waiting ++ p.last ∷ []) old new × (q ≡ record p { waiting = [] })
Settles {S} takes decoded (m ∷ ms) p q old new =
    (new ≡ old) × (q ≡ record p { waiting = p.waiting ++ p.last ∷ [] })

-- The last token was settled, and the one behind it was read.
pub record ReadsOn {S : Type 0} (takes : S → Taken → S → Type 0) (goal : Goal) (l k : LexerState) (p q : Pending)
    (old new : S) : Type 0 where
  pub settled : Pending
  pub settles : Settles takes l.decoded p.marks p settled old new
  pub reads : ReadsToken goal l q.last.token k
  pub regex : q.last.regex ≡ None
  pub rest : q ≡ record settled { last = q.last }

-- The last token was read again, where it fits the goal.
pub record ReadsAgain (goal : Goal) (l k : LexerState) (p q : Pending) : Type 0 where
  pub found : Option LastRead
  pub reads : ReadsIfFits goal l found k
  pub after : q ≡ record p { last = unwrap_or found p.last }

-- The next token was read, and the lexer has gone back before it.
abbrev pub LooksAhead : LexerState → LexerState → Type 0
LooksAhead l k = (token : TokenParts) × PeeksToken l token k

-- a mark of what was read so far
abbrev pub mark_of : LexerState → Pending → OpenMark
mark_of l p = record { checkpoint = checkpoint_of l; last = p.last; waiting = length p.waiting }

-- A mark was opened, and the lexer may go back to it.
pub record OpensMark (l : LexerState) (p q : Pending) : Type 0 where
  pub can_rewind : CanRewind l (checkpoint_of l)
  pub after : q ≡ record p { marks = p.marks ++ mark_of l p ∷ [] }

-- the lexer may go back to the last of these marks
abbrev pub MayGoBack : LexerState → List OpenMark → Type 0
MayGoBack l marks = (ms : List OpenMark) (m : OpenMark) → marks ≡ ms ++ m ∷ [] → CanRewind l m.checkpoint

-- The lexer has gone back to the last open mark, which is closed; what was read behind it waits no more. Values that were
-- decoded stay.
pub record GoesBack (l k : LexerState) (p q : Pending) : Type 0 where
  pub mark : OpenMark
  pub marks : p.marks ≡ q.marks ++ mark ∷ []
  pub lexer : (earlier : LexerState) → mark.checkpoint ≡ checkpoint_of earlier → GoesOnFrom earlier l
      → IsRestored earlier k
  pub decoded : k.decoded ≡ l.decoded
  pub after : q ≡ record { last = mark.last; waiting = take mark.waiting p.waiting; marks = q.marks }

-- The last open mark is closed.
pub record ClosesMark (p q : Pending) : Type 0 where
  pub mark : OpenMark
  pub marks : p.marks ≡ q.marks ++ mark ∷ []
  pub after : q ≡ record p { marks = q.marks }

-- an effect was followed
abbrev pub FollowsCommand : {S : Type 0} (takes : S → Taken → S → Type 0) → Effect → LexerState → LexerState → Pending
    → Pending → S → S → Type 0
FollowsCommand takes (Reads goal) l k p q old new = ReadsOn takes goal l k p q old new
FollowsCommand takes (Peeks goal) l k p q old new = LooksAhead l k × (q ≡ p) × (new ≡ old)
FollowsCommand takes (ReLexes goal) l k p q old new = ReadsAgain goal l k p q × (new ≡ old)
FollowsCommand takes Opens l k p q old new = OpensMark l p q × (k ≡ l) × (new ≡ old)
FollowsCommand takes Rewinds l k p q old new = GoesBack l k p q × (new ≡ old)
FollowsCommand takes Commits l k p q old new = ClosesMark p q × (k ≡ l) × (new ≡ old)

-- The live tokens of the report of a text and these commands were taken, and this is what was found.
pub record TakesSteps {S : Type 0} (takes : S → Taken → S → Type 0) (commands : List Command) (text : List ℕ)
    (t : SourceType) (found : Findings) (old new : S) : Type 0 where
  pub report : Report
  pub report_is : ReportOf text t false commands report
  pub takes_each : TakesEach takes old (live_taken commands report.rows) new
  pub tokens_are : map (λ x. x.token) (live_taken commands report.rows) ≡ report.tokens
  pub found_is : found ≡ live_found report
