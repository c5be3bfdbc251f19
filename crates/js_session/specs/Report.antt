-- What a session reports: which rows answer its commands, and what is live after them.
use Rattle.std.specs.Prelude.{◌≡◌, ◌≢◌, ℕ, ◌<◌, ◌≤◌, ◌^◌, Bool, true, false, List, [], ◌∷◌, length}
use Rattle.std.specs.Prelude.{Option, Some, None}
use Rattle.std.specs.Prelude.{slice_range}
use Rattle.std.specs.Prelude.{MatchBool}
use Rattle.std.specs.List.{flat_map}
use Rattle.std.specs.Str.{IsUtf8, IsCharBoundary, chars}
use Rattle.js_text.specs.JsStr.{units_of}
use Rattle.js_text.specs.declared.source_type.SourceType.{SourceType}
use Rattle.js_text.specs.declared.value.RowValue.{RowValue}
use Rattle.js_text.specs.declared.value.RowValue.TheVariants.{Nothing, Slice, Units, Bad}
use Rattle.js_grammar.specs.Goals.{GoalReads, AgreesWithGrammar}
use Rattle.js_grammar.specs.Outcome.{no_findings}
use Rattle.js_grammar.specs.ReLexed.{fits}
use Rattle.js_grammar.specs.Reads.{is_plain}
use Rattle.js_grammar.specs.declared.goal.Goal.{Goal}
use Rattle.js_kind.specs.TokenParts.{TokenParts}
use Rattle.js_kind.specs.declared.kind.Kind.TheVariants.{Eof}
use Rattle.js_lexer.specs.Lexer.{IsOnPlaces, collected, token_or_default}
use Rattle.js_session.specs.Effects.{effect_of, row_effect, is_step, closes}
use Rattle.js_session.specs.declared.command.Effect.{Effect}
use Rattle.js_session.specs.declared.command.Effect.TheVariants.{Reads, Peeks, ReLexes, Opens, Rewinds, Commits}
use Rattle.js_session.specs.Live.{Live, State, outcome_of, row_findings, last_live, place_behind_last, after_row}
use Rattle.js_session.specs.Live.{after_mark, state_after_first, nothing_live, live, report_live}
use Rattle.js_session.specs.declared.command.Command.{Command}
use Rattle.js_session.specs.declared.report.Report.{Report}
use Rattle.js_session.specs.declared.row.Row.{Row}

-- A stretch of the source has its ends, in order, on places of the source.
abbrev pub IsSliceOnPlaces : List ℕ → RowValue → Type 0
IsSliceOnPlaces source Nothing = Unit {0}
IsSliceOnPlaces source (Slice span) =
    IsCharBoundary source span.start × IsCharBoundary source span.end × (span.start ≤ span.end)
IsSliceOnPlaces source (Units units) = Unit {0}
IsSliceOnPlaces source Bad = Unit {0}

-- the UTF-16 units of a value, of a stretch of the source those of its characters; a bad value has none
abbrev pub text_of : List ℕ → RowValue → Option (List ℕ)
text_of source Nothing = None
text_of source (Slice span) = Some (units_of (chars (slice_range source span.start span.end)))
text_of source (Units units) = Some units
text_of source Bad = None

-- The token and the value of a row lie on places of the source.
pub record LiesOnPlaces (source : List ℕ) (row : Row) : Type 0 where
  pub token : IsOnPlaces source row.token
  pub value : IsSliceOnPlaces source row.value

-- A row of a reading from behind the last live token. Of the plain goals it has no diagnostic exactly where the grammar
-- reads a token from there, and then it has this token.
pub record IsRead (text : List ℕ) (t : SourceType) (now : Live) (goal : Goal) (row : Row) : Type 0 where
  pub taken : row.taken ≡ true
  pub reads : GoalReads text t goal (last_live now) row.place (outcome_of row)
  pub agrees : is_plain goal ≡ true → AgreesWithGrammar text t goal (last_live now) row.place (outcome_of row)
  pub some_text : row.token.kind ≢ Eof → row.token.start < row.token.end

-- A row of a re-lex that was taken: the last live token is read again, from its start.
pub record IsReLexed (text : List ℕ) (t : SourceType) (now : Live) (goal : Goal) (row : Row) : Type 0 where
  pub taken : row.taken ≡ true
  pub reads : GoalReads text t goal (last_live now) (token_or_default (last_live now)).start (outcome_of row)

-- A row of a re-lex that was not taken: it holds the last live token, and nothing else.
pub record IsNotTaken (now : Live) (row : Row) : Type 0 where
  pub taken : row.taken ≡ false
  pub token : row.token ≡ token_or_default (last_live now)
  pub value : row.value ≡ Nothing
  pub regex : row.regex ≡ None
  pub findings : row_findings row ≡ no_findings

-- The row is one of three: a reading, a re-lex that was taken, or one that was not.
abbrev pub IsOfEffect : List ℕ → SourceType → Live → Effect → Row → Type 0
IsOfEffect text t now (Reads goal) row = IsRead text t now goal row
IsOfEffect text t now (Peeks goal) row = IsRead text t now goal row
IsOfEffect text t now (ReLexes goal) row =
    MatchBool (fits text goal (token_or_default (last_live now))) (IsReLexed text t now goal row) (IsNotTaken now row)
IsOfEffect text t now Opens row = ⊥
IsOfEffect text t now Rewinds row = ⊥
IsOfEffect text t now Commits row = ⊥

-- The row of a command, or of the first step, which has none.
pub record IsRow (text : List ℕ) (t : SourceType) (now : Live) (command : Option Command) (row : Row) : Type 0 where
  pub command_is : row.command ≡ command
  pub place : row.place ≡ place_behind_last now
  pub gives : IsOfEffect text t now (row_effect command) row
  pub places : LiesOnPlaces text row

-- a mark is open, if the command closes one
abbrev pub HasMark : Command → State → Type 0
HasMark c s = closes c ≡ true → s.marks ≢ []

-- From a state on, the rows answer the commands: one row for each step, in order.
abbrev pub Run : List ℕ → SourceType → State → List Command → List Row → Type 0
Run text t s [] rows = rows ≡ []
Run text t s (c ∷ cs) [] = MatchBool (is_step c) ⊥ (HasMark c s × Run text t (after_mark (effect_of c) s) cs [])
Run text t s (c ∷ cs) (row ∷ rows) =
    MatchBool (is_step c) (IsRow text t s.now (Some c) row × Run text t (after_row (effect_of c) row s) cs rows)
    (HasMark c s × Run text t (after_mark (effect_of c) s) cs (row ∷ rows))

-- The rows answer the first step, and then the commands.
abbrev pub AreRows : List ℕ → SourceType → List Command → List Row → Type 0
AreRows text t commands [] = ⊥
AreRows text t commands (row ∷ rows) =
    IsRow text t nothing_live None row × Run text t (state_after_first row) commands rows

-- What is collected of tokens: nothing where tokens are not collected, else all but a hashbang comment.
abbrev pub all_collected : Bool → List TokenParts → List TokenParts
all_collected collects tokens = flat_map (collected collects) tokens

-- The report of a session over a source: a row for each step, in order, and what is live after the commands. Whether
-- tokens are collected changes the collected ones alone.
pub record ReportOf (source : List ℕ) (t : SourceType) (collects : Bool) (commands : List Command) (report : Report)
    : Type 0 where
  pub utf8 : IsUtf8 source
  pub short : length source < 2 ^ 32
  pub rows : AreRows source t commands report.rows
  pub lists : report_live report ≡ live commands report.rows
  pub collected_are : report.collected ≡ all_collected collects report.tokens
