-- Rules by which goals are chosen, and the report of a source with one.
use Rattle.std.specs.Prelude.{◌≡◌, ℕ, ◌<◌, Bool, true, false, List, [], ◌∷◌, ◌++◌, length, take, slice_get, Option}
use Rattle.std.specs.Prelude.{Some, None}
use Rattle.std.specs.List.{last_or}
use Rattle.std.specs.Str.{IsUtf8}
use Rattle.js_text.specs.Lists.{with_last}
use Rattle.js_text.specs.declared.source_type.SourceType.{SourceType}
use Rattle.js_kind.specs.TokenParts.{TokenParts}
use Rattle.js_kind.specs.declared.kind.Kind.TheVariants.{Eof}
use Rattle.js_grammar.specs.Reads.{is_onward}
use Rattle.js_grammar.specs.ReLexed.{fits}
use Rattle.js_grammar.specs.declared.goal.Goal.{Goal}
use Rattle.js_grammar.specs.declared.goal.Goal.TheVariants.{First, Next as NextGoal, TemplateTail as TailGoal}
use Rattle.js_grammar.specs.declared.goal.Goal.TheVariants.{RegularExpression, RightAngle, TypeScriptLeftAngle}
use Rattle.js_grammar.specs.declared.goal.Goal.TheVariants.{TypeScriptRightAngle, JsxIdentifier, JsxChild}
use Rattle.js_grammar.specs.declared.goal.Goal.TheVariants.{JsxAttributeValue}
use Rattle.js_lexer.specs.Lexer.{IsOnPlaces}
use Rattle.js_session.specs.declared.command.Command.{Command}
use Rattle.js_session.specs.declared.report.Report.{Report}
use Rattle.js_session.specs.declared.row.Row.{Row}
use Rattle.js_session.specs.declared.command.Effect.{Effect}
use Rattle.js_session.specs.Effects.{effect_of}
use Rattle.js_session.specs.declared.command.Effect.TheVariants.{Reads, Peeks, ReLexes, Opens, Rewinds, Commits}
use Rattle.js_session.specs.Live.{live}
use Rattle.js_session.specs.Report.{ReportOf}

-- the tokens behind an effect that gave one: one more, or another in the place of the last one
abbrev pub with_token : Effect → List TokenParts → TokenParts → List TokenParts
with_token (Reads goal) tokens token = tokens ++ token ∷ []
with_token (Peeks goal) tokens token = tokens
with_token (ReLexes goal) tokens token = with_last tokens token
with_token Opens tokens token = tokens
with_token Rewinds tokens token = tokens
with_token Commits tokens token = tokens

-- Which command comes next, by a text and its tokens so far. None: no command follows.
abbrev pub Rule : Type 0
Rule = List ℕ → List TokenParts → Option Command

-- The goals that read a token again so that none reads it once more.
abbrev pub is_final : Goal → Bool
is_final First = false
is_final NextGoal = false
is_final TailGoal = true
is_final RegularExpression = true
is_final RightAngle = false
is_final TypeScriptLeftAngle = false
is_final TypeScriptRightAngle = false
is_final JsxIdentifier = true
is_final JsxChild = false
is_final JsxAttributeValue = false

-- A goal may read on behind a last token: behind any but `Eof`, and behind an `Eof` that is not the end of the text, as
-- JSX has one before a `}`, the goal of a plain step.
pub record MayReadOn (text : List ℕ) (goal : Goal) (last : TokenParts) : Type 0 where
  pub plain : last.kind ≡ Eof → goal ≡ NextGoal
  pub inside : last.kind ≡ Eof → last.end < length text

-- A command may come behind these tokens: it reads on, or reads the last one again, where that lies on places of a text
-- in UTF-8.
pub data IsDue (text : List ℕ) (tokens : List TokenParts) (command : Command) : Type 0 where
  reads_on : (goal : Goal) → effect_of command ≡ Reads goal → is_onward goal ≡ true → ¬ (goal ≡ First)
      → ((last : TokenParts) → last_or None tokens ≡ Some last → MayReadOn text goal last) → IsDue text tokens command
  reads_again : (goal : Goal) → effect_of command ≡ ReLexes goal → is_final goal ≡ true → (last : TokenParts)
      → last_or None tokens ≡ Some last → (IsUtf8 text → IsOnPlaces text last → fits text goal last ≡ true)
      → IsDue text tokens command

-- Each command that a rule chooses may come.
abbrev pub IsRule : Rule → Type 0
IsRule rule =
    (text : List ℕ) (tokens : List TokenParts) (command : Command) → rule text tokens ≡ Some command
    → IsDue text tokens command

-- Each command is the choice behind the tokens that are live before it, and behind the last one there is none. What is
-- live behind the first commands is told by the rows that answer them: `live` takes no more rows than it has commands.
pub record AreChosenBy (choice : List TokenParts → Option Command) (commands : List Command) (rows : List Row)
    : Type 0 where
  pub each : (index : ℕ) (command : Command) → slice_get commands index ≡ Some command
      → choice (live (take index commands) rows).tokens ≡ Some command
  pub stops : choice (live commands rows).tokens ≡ None

-- The report of a session over a source, with the commands that a rule chooses.
pub record ReportBy (rule : Rule) (source : List ℕ) (t : SourceType) (collects : Bool) (commands : List Command)
    (report : Report) : Type 0 where
  pub report_is : ReportOf source t collects commands report
  pub chosen : AreChosenBy (rule source) commands report.rows
