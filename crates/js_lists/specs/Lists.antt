-- The lists of what is live of a source.
use Rattle.std.specs.Prelude.{◌≡◌, ◌⊎◌, ◌≤◌, ℕ, true, false, List, ◌∷◌}
use Rattle.std.specs.Prelude.{[], ◌++◌, length, map, Option, Some, None, slice_get}
use Rattle.js_text.specs.declared.reg_exp_flags.RegexInfo.{RegexInfo}
use Rattle.js_text.specs.declared.source_type.SourceType.{SourceType}
use Rattle.js_text.specs.declared.value.RowValue.{RowValue}
use Rattle.js_kind.specs.TokenParts.{TokenParts}
use Rattle.js_grammar.specs.Outcome.{Findings}
use Rattle.js_grammar.specs.TokenText.{is_valued, text_end, text_start, unescaped_value}
use Rattle.js_source.specs.Offsets.{Holds, Placed, value_of}
use Rattle.js_session.specs.Report.{ReportOf}
use Rattle.js_session.specs.declared.command.Command.{Command}
use Rattle.js_session.specs.declared.report.Report.{Report}
use Rattle.js_choose.specs.Rules.{ReportBy, Rule}
use Rattle.js_lists.specs.LiveLists.{live_found, live_taken}
use Rattle.js_lists.specs.Taken.{Taken}
use Rattle.js_lists.specs.declared.lists.LiveLists.{LiveLists}

-- Kind and span of a token tell its value: that of a token without an escape.
pub record IsTold (token : TokenParts) (value : RowValue) : Type 0 where
  pub value_is : value ≡ unescaped_value token.kind token.start token.end
  pub ordered : is_valued token.kind ≡ true → text_start token.kind token.start ≤ text_end token.kind token.end

-- What is kept as the value of a token that was taken: nothing where kind and span tell it, and of no token.
abbrev pub KeepsValue : Option Taken → Option RowValue → Type 0
KeepsValue None kept = kept ≡ None
KeepsValue (Some x) None = IsTold x.token x.value
KeepsValue (Some x) (Some value) = value ≡ x.value

-- what is known as a regular expression of a token that was taken, if one was
abbrev pub regex_of : Option Taken → Option RegexInfo
regex_of None = None
regex_of (Some x) = x.regex

-- The lists tell the tokens that were taken: each with its value and with what is known of it as a regular expression,
-- by its index, and nothing of others.
pub record HasTaken (lists : LiveLists) (taken : List Taken) : Type 0 where
  pub tokens : lists.tokens ≡ map (λ x. x.token) taken
  pub values : (index : ℕ) → KeepsValue (slice_get taken index) (value_of lists.values index)
  pub regexes : (index : ℕ) → value_of lists.regexes index ≡ regex_of (slice_get taken index)

-- the value of the token with this index was added, if kind and span don't tell it
abbrev pub AddsValue : ℕ → TokenParts → RowValue → Placed RowValue → Placed RowValue → Type 0
AddsValue index token value old new = ((new ≡ old) × IsTold token value) ⊎ Holds index value old new

-- what is known of the token with this index as a regular expression was added, if it is one
abbrev pub AddsRegex : ℕ → Option RegexInfo → Placed RegexInfo → Placed RegexInfo → Type 0
AddsRegex index None old new = new ≡ old
AddsRegex index (Some info) old new = Holds index info old new

-- one more token was taken
pub record AddsTaken (old : LiveLists) (x : Taken) (new : LiveLists) : Type 0 where
  pub tokens : new.tokens ≡ old.tokens ++ x.token ∷ []
  pub value : AddsValue (length old.tokens) x.token x.value old.values new.values
  pub regex : AddsRegex (length old.tokens) x.regex old.regexes new.regexes

-- what was found was taken
pub record AddsFound (old : LiveLists) (found : Findings) (new : LiveLists) : Type 0 where
  pub tokens : new.tokens ≡ old.tokens
  pub values : new.values ≡ old.values
  pub regexes : new.regexes ≡ old.regexes
  pub found_is : new.found ≡ found

-- The lists are those of the report of these commands: its live tokens, each with the value and the regular expression
-- of the row that read it, and what is live of what was found.
pub record AreListsOf (commands : List Command) (report : Report) (lists : LiveLists) : Type 0 where
  pub taken : HasTaken lists (live_taken commands report.rows)
  pub tokens_are : lists.tokens ≡ report.tokens
  pub found_is : lists.found ≡ live_found report

-- The lists of the report of a source whose goals a rule chooses.
pub record ListsOfChosen (rule : Rule) (source : List ℕ) (t : SourceType) (lists : LiveLists) : Type 0 where
  pub commands : List Command
  pub report : Report
  pub report_is : ReportBy rule source t false commands report
  pub are_lists : AreListsOf commands report lists

-- The lists of the report of a source and these commands.
pub record ListsOfCommands (source : List ℕ) (t : SourceType) (commands : List Command) (lists : LiveLists)
    : Type 0 where
  pub report : Report
  pub report_is : ReportOf source t false commands report
  pub are_lists : AreListsOf commands report lists
