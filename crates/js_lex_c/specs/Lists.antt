-- The lists of a report, as C sees them, and what a call does to the lists of its caller.
use Rattle.std.specs.Prelude.{◌≡◌, ◌⊎◌, ℕ, ◌+◌, ◌≤◌, false, List, length, map, Result, Ok, Err}
use Rattle.js_text.specs.declared.source_type.SourceType.{SourceType}
use Rattle.js_session.specs.Faults.{HasMarks}
use Rattle.js_session.specs.Report.{ReportOf}
use Rattle.js_session.specs.declared.command.Command.{Command}
use Rattle.js_session.specs.declared.fault.LexFault.{LexFault}
use Rattle.js_session.specs.declared.fault.LexFault.TheVariants.{Overlong, NotUtf8, NoMark, Memory}
use Rattle.js_session.specs.declared.report.Report.{Report}
use Rattle.js_choose.specs.Rules.{ReportBy, Rule}
use Rattle.js_auto.specs.Auto.{ReportOfChosen}
use Rattle.js_jsx.specs.Choice.{choice as jsx_choice}
use Rattle.js_lists.specs.LiveLists.{live_taken}
use Rattle.js_lists.specs.Taken.{Taken}
use Rattle.js_lex_c.specs.Faults.{LacksMemory, fault_number, fault_place}
use Rattle.js_lex_c.specs.Filled.{filled}
use Rattle.js_lex_c.specs.Held.{Held}
use Rattle.js_lex_c.specs.Numbers.{command_number, source_type_number}
use Rattle.js_lex_c.specs.Records.{comment_record, diagnostic_record, span_record}
use Rattle.js_lex_c.specs.Tokens.{pool, token_records}
use Rattle.js_lex_c.specs.declared.fault.Fault.{Fault}
use Rattle.js_lex_c.specs.declared.fault.Fault.TheVariants.{UnknownSourceType, UnknownCommand, Lex}
use Rattle.js_lex_c.specs.declared.fill.JsCounts.{JsCounts}
use Rattle.js_lex_c.specs.declared.record.JsComment.{JsComment}
use Rattle.js_lex_c.specs.declared.record.JsDiagnostic.{JsDiagnostic}
use Rattle.js_lex_c.specs.declared.record.JsSpan.{JsSpan}
use Rattle.js_lex_c.specs.declared.record.JsToken.{JsToken}

-- The lists of a report, as C sees them.
pub record ReportLists : Type 0 where
  pub tokens : List JsToken
  pub units : List ℕ
  pub diagnostics : List JsDiagnostic
  pub deferred : List JsDiagnostic
  pub comments : List JsComment
  pub irregular : List JsSpan
  pub warnings : List JsSpan

-- the lists of the report of these commands: a token for each live row, and what is live of all else
abbrev pub lists_of : List Command → Report → ReportLists
lists_of commands report = record {
  tokens = token_records 0 (live_taken commands report.rows);
  units = pool (live_taken commands report.rows);
  diagnostics = map diagnostic_record report.diagnostics;
  deferred = map diagnostic_record report.deferred;
  comments = map comment_record report.comments;
  irregular = map span_record report.irregular;
  warnings = map span_record report.warnings;
}

-- The lists are those of the report of these commands, and the live rows are those of its tokens.
pub record AreListsOf (commands : List Command) (report : Report) (lists : ReportLists) : Type 0 where
  pub lists_are : lists ≡ lists_of commands report
  pub tokens_are : map (λ taken. taken.token) (live_taken commands report.rows) ≡ report.tokens

-- The lists of the report of a source whose goals a rule chooses.
pub record ListsBy (rule : Rule) (source : List ℕ) (t : SourceType) (lists : ReportLists) : Type 0 where
  pub commands : List Command
  pub report : Report
  pub chosen : ReportBy rule source t false commands report
  pub are_lists : AreListsOf commands report lists

-- The lists of the report of a source whose goals are chosen. There is one token more than bytes, at most.
pub record ListsOfChosen (source : List ℕ) (t : SourceType) (lists : ReportLists) : Type 0 where
  pub commands : List Command
  pub report : Report
  pub chosen : ReportOfChosen source t false commands report
  pub are_lists : AreListsOf commands report lists
  pub few : length lists.tokens ≤ length source + 1

-- the same of a source type by its number
pub record AutoLists (source : List ℕ) (number : ℕ) (lists : ReportLists) : Type 0 where
  pub source_type : SourceType
  pub type_is : number ≡ source_type_number source_type
  pub are_lists : ListsOfChosen source source_type lists

-- The lists of a report of some kind, with the source type by its number.
pub record NumberedLists (Are : SourceType → ReportLists → Type 0) (number : ℕ) (lists : ReportLists) : Type 0 where
  pub source_type : SourceType
  pub type_is : number ≡ source_type_number source_type
  pub are_lists : Are source_type lists

-- The lists of the report of a source that may have JSX, whose goals are chosen by the rule for that, with its type by
-- its number.
abbrev pub JsxLists : List ℕ → ℕ → ReportLists → Type 0
JsxLists source number lists = NumberedLists (ListsBy jsx_choice source) number lists

-- The lists of the report of a source and commands, each of which that closes a mark has one to close.
pub record ListsOfCommands (source : List ℕ) (t : SourceType) (commands : List Command) (lists : ReportLists)
    : Type 0 where
  pub report : Report
  pub report_is : ReportOf source t false commands report
  pub are_lists : AreListsOf commands report lists
  pub marks : HasMarks commands

-- the same of a source type and commands by their numbers
pub record StepLists (source : List ℕ) (number : ℕ) (numbers : List ℕ) (lists : ReportLists) : Type 0 where
  pub source_type : SourceType
  pub type_is : number ≡ source_type_number source_type
  pub commands : List Command
  pub commands_are : map command_number commands ≡ numbers
  pub are_lists : ListsOfCommands source source_type commands lists

-- Each list of the caller has the items as far as there is room, and behind them what stood there.
pub record AreFilled (lists : ReportLists) (old new : Held) : Type 0 where
  pub tokens : new.tokens ≡ filled old.tokens lists.tokens
  pub units : new.units ≡ filled old.units lists.units
  pub diagnostics : new.diagnostics ≡ filled old.diagnostics lists.diagnostics
  pub deferred : new.deferred ≡ filled old.deferred lists.deferred
  pub comments : new.comments ≡ filled old.comments lists.comments
  pub irregular : new.irregular ≡ filled old.irregular lists.irregular
  pub warnings : new.warnings ≡ filled old.warnings lists.warnings

-- Some tokens stand at the beginning of their list, and their units at that of theirs, as far as there is room, and
-- behind them what stood there. All other lists are as they were.
pub record AreBegun (old new : Held) : Type 0 where
  pub taken : List Taken
  pub tokens : new.tokens ≡ filled old.tokens (token_records 0 taken)
  pub units : new.units ≡ filled old.units (pool taken)
  pub rest : new ≡ record old { tokens = new.tokens; units = new.units }

-- what a fault leaves in the lists: where there was no memory some tokens, and else what stood there
abbrev pub LexFaultLeaves : LexFault → Held → Held → Type 0
LexFaultLeaves Overlong old new = new ≡ old
LexFaultLeaves (NotUtf8 at) old new = new ≡ old
LexFaultLeaves (NoMark index) old new = new ≡ old
LexFaultLeaves Memory old new = AreBegun old new

abbrev pub FaultLeaves : Fault → Held → Held → Type 0
FaultLeaves UnknownSourceType old new = new ≡ old
FaultLeaves (UnknownCommand index) old new = new ≡ old
FaultLeaves (Lex fault) old new = LexFaultLeaves fault old new

-- how many items there are of each list
abbrev pub counts_of : ReportLists → JsCounts
counts_of lists = record {
  tokens = length lists.tokens;
  units = length lists.units;
  diagnostics = length lists.diagnostics;
  deferred = length lists.deferred;
  comments = length lists.comments;
  irregular = length lists.irregular;
  warnings = length lists.warnings;
  place = 0;
}

-- where a fault is, and no items
abbrev pub fault_counts : Fault → JsCounts
fault_counts fault = record {
  tokens = 0;
  units = 0;
  diagnostics = 0;
  deferred = 0;
  comments = 0;
  irregular = 0;
  warnings = 0;
  place = fault_place fault;
}

-- The call filled the lists with such lists, and counted their items.
pub record Gives (Are : ReportLists → Type 0) (old new : Held) (counts : JsCounts) : Type 0 where
  pub lists : ReportLists
  pub are : Are lists
  pub filled : AreFilled lists old new
  pub counted : counts ≡ counts_of lists

-- The call found a fault, which has its cause, or no memory. It left the lists as they were, but where there was no
-- memory, and counted nothing.
pub record Refuses (source_type : ℕ) (Cause : Fault → Type 0) (answer : ℕ) (old new : Held) (counts : JsCounts)
    : Type 0 where
  pub fault : Fault
  pub cause : LacksMemory source_type fault ⊎ Cause fault
  pub number : answer ≡ fault_number fault
  pub leaves : FaultLeaves fault old new
  pub counted : counts ≡ fault_counts fault

-- What came of a source: the lists were filled with such lists, and these are the counts, or there is a fault.
abbrev pub Fills : (ReportLists → Type 0) → (LexFault → Type 0) → Held → Held → Result JsCounts LexFault → Type 0
Fills Are Causes old new (Ok counts) = Gives Are old new counts
Fills Are Causes old new (Err fault) = ((fault ≡ Memory) ⊎ Causes fault) × LexFaultLeaves fault old new

-- the same with a source type by its number
abbrev pub FillsOfNumber : ℕ → (ReportLists → Type 0) → (Fault → Type 0) → Held → Held → Result JsCounts Fault → Type 0
FillsOfNumber number Are Causes old new (Ok counts) = Gives Are old new counts
FillsOfNumber number Are Causes old new (Err fault) =
    (LacksMemory number fault ⊎ Causes fault) × FaultLeaves fault old new

-- What a call answers that counted these items, or found this fault.
abbrev pub Ends : Result JsCounts Fault → ℕ → JsCounts → Type 0
Ends (Ok found) answer counts = (answer ≡ 0) × (counts ≡ found)
Ends (Err fault) answer counts = (answer ≡ fault_number fault) × (counts ≡ fault_counts fault)

-- The call answers 0 and gives such lists, or another number for a fault.
abbrev pub Answers : ℕ → (ReportLists → Type 0) → (Fault → Type 0) → ℕ → Held → Held → JsCounts → Type 0
Answers source_type Are Cause answer old new counts =
    ((answer ≡ 0) × Gives Are old new counts) ⊎ Refuses source_type Cause answer old new counts
