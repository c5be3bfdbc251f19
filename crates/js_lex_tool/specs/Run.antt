-- What a run reads, answers and writes.
use Rattle.std.specs.Prelude.{◌≡◌, ◌≢◌, ℕ, ◌+◌, ◌≤◌, ◌⊎◌, ◌↔◌, List, [], ◌∷◌, length, Option, Some, None, IfSome}
use Rattle.std.specs.Prelude.{IsSome, Bool, true, ⊤}
use Rattle.std.specs.Io.KnownBytes.{Consumes, Keeps, IsAtEnd}
use Rattle.std.specs.Str.{IsUtf8}
use Rattle.js_auto.specs.Auto.{ReportOfChosen}
use Rattle.js_session.specs.Faults.{HasMarks}
use Rattle.js_session.specs.Report.{ReportOf}
use Rattle.js_session.specs.WholeSource.{nexts, ReportOfWhole}
use Rattle.js_session.specs.declared.command.Command.{Command}
use Rattle.js_session.specs.declared.fault.LexFault.{LexFault}
use Rattle.js_session.specs.declared.fault.LexFault.TheVariants.{Overlong, NotUtf8 as NotUtf8Fault}
use Rattle.js_session.specs.declared.fault.LexFault.TheVariants.{NoMark as NoMarkFault, Memory}
use Rattle.js_session.specs.declared.report.Report.{Report}
use Rattle.js_text.specs.declared.source_type.SourceType.{SourceType}
use Rattle.js_text.specs.declared.source_type.SourceType.TheVariants.{Module}
use Rattle.js_rewrite.specs.Faults.{first_diagnosed}
use Rattle.js_rewrite.specs.declared.fault.RewriteFault.{RewriteFault}
use Rattle.js_rewrite.specs.declared.fault.RewriteFault.TheVariants as rewrite_fault
use Rattle.js_process.specs.Outside.{InputState, OutputState, Rises, WritesPrefix, InTime}
use Rattle.js_process.specs.Reads.{CanBeRead, most_bytes}
use Rattle.js_process.specs.Status.{CountsFault, Status, number, order, IsOneOf, HasPassed, Tests}
use Rattle.js_process.specs.Status.Status.{Done, OutOfMemory, Usage, ReadFailed, WriteFailed, TooLong, NotUtf8, NoMark}
use Rattle.js_process.specs.Status.Status.{Diagnosed}
use Rattle.js_process.specs.Writing.{Writes}
use Rattle.js_lex_tool.specs.Anew.{KeepsRows, lexes_anew, text_anew}
use Rattle.js_lex_tool.specs.Generated.{generated, summary_of}
use Rattle.js_lex_tool.specs.ReportText.{report_text_of}
use Rattle.js_lex_tool.specs.declared.tool.Ran.{Ran}
use Rattle.js_lex_tool.specs.declared.tool.ToolOutcome.{ToolOutcome}
use Rattle.js_lex_tool.specs.declared.words.CommandLine.{CommandLine}
use Rattle.js_lex_tool.specs.declared.words.Commands.{Commands}
use Rattle.js_lex_tool.specs.declared.words.Commands.TheVariants.{Listed, All, Auto}
use Rattle.js_lex_tool.specs.declared.words.Rewriting.{Rewriting}
use Rattle.js_lex_tool.specs.declared.words.Task.{Task}
use Rattle.js_lex_tool.specs.declared.words.Task.TheVariants.{Lex, Generate, WriteAnew}

-- the status of a run whose session has this fault
abbrev pub status_of : LexFault → Status
status_of Overlong = TooLong
status_of (NotUtf8Fault at) = NotUtf8
status_of (NoMarkFault index) = NoMark
status_of Memory = OutOfMemory

-- the status of a run whose source is not written anew for this fault; the words have no command that could be at fault
abbrev pub status_anew : RewriteFault → Status
status_anew rewrite_fault.Overlong = TooLong
status_anew (rewrite_fault.NotUtf8 at) = NotUtf8
status_anew (rewrite_fault.BadCommand index) = Usage
status_anew (rewrite_fault.Diagnosed index) = Diagnosed
status_anew rewrite_fault.Memory = OutOfMemory

-- the commands that the words list: none with `all` or `auto`, which close no mark
abbrev pub listed_commands : Commands → List Command
listed_commands (Listed commands) = commands
listed_commands All = []
listed_commands Auto = []

-- The commands of a session over a source are those that are meant: the listed ones; with `all`, the least number of
-- `next` after which the last row is `Eof`; or, with `auto`, those that are chosen by the tokens.
abbrev pub AreMeant : Commands → List ℕ → SourceType → Bool → List Command → Report → Type 0
AreMeant (Listed listed) source t tokens commands report = commands ≡ listed
AreMeant All source t tokens commands report =
    (steps : ℕ) × (commands ≡ nexts steps) × ReportOfWhole source t tokens steps report
AreMeant Auto source t tokens commands report = ReportOfChosen source t tokens commands report

-- What a run over the bytes was: its source is exactly these bytes, its source type, tokens and commands are those of
-- the command line, and its report is that of a session over them.
pub record IsRunOver (line : CommandLine) (bytes : List ℕ) (ran : Ran) : Type 0 where
  pub source : ran.source ≡ bytes
  pub source_type : ran.source_type ≡ line.source_type
  pub tokens : ran.tokens ≡ line.tokens
  pub commands : AreMeant line.commands ran.source ran.source_type ran.tokens ran.commands ran.report
  pub report : ReportOf ran.source ran.source_type ran.tokens ran.commands ran.report

-- the report of a session over the bytes, with the command line's source type, tokens and commands
abbrev pub HasReport : CommandLine → List ℕ → Report → Type 0
HasReport line bytes report =
    (commands : List Command) × AreMeant line.commands bytes line.source_type line.tokens commands report
    × ReportOf bytes line.source_type line.tokens commands report

-- nothing was written, or a beginning of the text of a report over the bytes
abbrev pub MayWrite : CommandLine → List ℕ → (Report → List ℕ) → OutputState → OutputState → Type 0
MayWrite line bytes text_of old new =
    Keeps old.written new.written
    ⊎ ((report : Report) × HasReport line bytes report × WritesPrefix old new (text_of report))

-- What a run of a command line comes to once it has all bytes of its source, by these bytes and by the text that it
-- makes of a report.
pub record Answers (line : CommandLine) (bytes : List ℕ) (text_of : Report → List ℕ) (old new : OutputState)
    (outcome : ToolOutcome) : Type 0 where
  pub known : IsOneOf (OutOfMemory ∷ NotUtf8 ∷ NoMark ∷ WriteFailed ∷ Done ∷ []) outcome.status
  -- the tests of the bytes and the commands
  pub utf8 : Tests NotUtf8 outcome.status (¬ (IsUtf8 bytes)) (IsUtf8 bytes)
  pub marks : Tests NoMark outcome.status (¬ (HasMarks (listed_commands line.commands)))
      (HasMarks (listed_commands line.commands))
  -- where all of these were passed, the outcome tells what ran, and its text was written or the output failed
  pub has_run : IsSome outcome.ran ↔ HasPassed NoMark outcome.status
  pub ran : IfSome outcome.ran (IsRunOver line bytes)
  pub text : IfSome outcome.ran (λ ran. Writes (text_of ran.report) old new outcome.status)
  pub faults : CountsFault WriteFailed outcome.status old.faults new.faults
  -- no call came after a write or a flush that failed
  pub in_time : InTime old.course new.course
  -- else nothing was written; a run that is out of memory may have begun to write
  pub quiet : (¬ (HasPassed NoMark outcome.status)) → outcome.status ≢ number OutOfMemory → new ≡ old
  pub memory : outcome.status ≡ number OutOfMemory → MayWrite line bytes text_of old new

-- The report of a session over the bytes has a row with a diagnostic.
pub record IsDiagnosed (line : CommandLine) (bytes : List ℕ) : Type 0 where
  pub report : Report
  pub report_is : HasReport line bytes report
  pub index : ℕ
  pub first : first_diagnosed report.rows ≡ Some index

-- What a run that writes its source anew comes to once it has all bytes of it.
pub record AnswersAnew (r : Rewriting) (bytes : List ℕ) (old new : OutputState) (outcome : ToolOutcome) : Type 0 where
  pub known : IsOneOf (OutOfMemory ∷ NotUtf8 ∷ Diagnosed ∷ WriteFailed ∷ Done ∷ []) outcome.status
  -- the tests of the bytes and of the rows of their report
  pub utf8 : Tests NotUtf8 outcome.status (¬ (IsUtf8 bytes)) (IsUtf8 bytes)
  pub rows : Tests Diagnosed outcome.status (IsDiagnosed (lexes_anew r) bytes) (¬ (IsDiagnosed (lexes_anew r) bytes))
  -- where both were passed, the outcome tells what ran, and the text made of it was written or the output failed
  pub has_run : IsSome outcome.ran ↔ HasPassed Diagnosed outcome.status
  pub ran : IfSome outcome.ran (IsRunOver (lexes_anew r) bytes)
  pub text : IfSome outcome.ran (λ ran. Writes (text_anew r.rewrite bytes ran.report) old new outcome.status)
  pub keeps : IfSome outcome.ran
      (λ ran. KeepsRows bytes r.source_type ran.commands ran.report (text_anew r.rewrite bytes ran.report))
  pub faults : CountsFault WriteFailed outcome.status old.faults new.faults
  -- no call came after a write or a flush that failed
  pub in_time : InTime old.course new.course
  -- else nothing was written; a run that is out of memory may have begun to write
  pub quiet : (¬ (HasPassed Diagnosed outcome.status)) → outcome.status ≢ number OutOfMemory → new ≡ old
  pub memory : outcome.status ≡ number OutOfMemory
      → MayWrite (lexes_anew r) bytes (text_anew r.rewrite bytes) old new

-- a run that gave up before its input was read to its end, and has written nothing
pub record GivesUp (old new : OutputState) (outcome : ToolOutcome) : Type 0 where
  pub known : IsOneOf (OutOfMemory ∷ ReadFailed ∷ TooLong ∷ []) outcome.status
  pub ran : outcome.ran ≡ None
  pub quiet : new ≡ old

-- What a run comes to that reads its input to its end, by what it answers to the bytes, and by what its input and its
-- output tell before and after it.
pub record ReadsInput (AnswersTo : List ℕ → OutputState → OutputState → ToolOutcome → Type 0)
    (input input_new : InputState) (output output_new : OutputState) (outcome : ToolOutcome) : Type 0 where
  -- the bytes that it read: one too many exactly where the input is too long
  pub bytes : List ℕ
  pub read : Consumes input.left input_new.left bytes
  pub bounded : length bytes ≤ most_bytes + 1
  pub long : outcome.status ≢ number OutOfMemory → (outcome.status ≡ number TooLong) ↔ (length bytes ≡ most_bytes + 1)
  pub faults : CountsFault ReadFailed outcome.status input.faults input_new.faults
  -- no read came after one that found the end, nor after one that failed
  pub in_time : InTime input.course input_new.course
  -- it gave up while it read, or has read all bytes and answers
  pub ends : GivesUp output output_new outcome ⊎ (IsAtEnd input_new.left × AnswersTo bytes output output_new outcome)

-- What a run of a command line comes to: it writes the report.
abbrev pub RunsLine : CommandLine → InputState → InputState → OutputState → OutputState → ToolOutcome → Type 0
RunsLine line input input_new output output_new outcome =
    ReadsInput (λ bytes. Answers line bytes (report_text_of bytes)) input input_new output output_new outcome

-- What a run comes to that writes its source anew.
abbrev pub RunsAnew : Rewriting → InputState → InputState → OutputState → OutputState → ToolOutcome → Type 0
RunsAnew r input input_new output output_new outcome =
    ReadsInput (AnswersAnew r) input input_new output output_new outcome

-- generated lines are lexed to their end as a module, and their tokens are collected
abbrev pub lexes_lines : CommandLine
lexes_lines = record { source_type = Module; tokens = true; commands = All }

-- What a run over so many generated lines comes to, by what its input and its output tell before and after it.
pub record RunsGenerated (lines : ℕ) (input input_new : InputState) (output output_new : OutputState)
    (outcome : ToolOutcome) : Type 0 where
  pub known : IsOneOf (OutOfMemory ∷ WriteFailed ∷ Done ∷ []) outcome.status
  -- nothing is read
  pub unread : input_new ≡ input
  -- what was lexed is the lines, and the summary of their report is written
  pub answers : Answers lexes_lines (generated lines) (summary_of lines) output output_new outcome

-- What a run comes to, by what its words ask for.
abbrev pub RunsTask : Task → InputState → InputState → OutputState → OutputState → ToolOutcome → Type 0
RunsTask (Lex line) input input_new output output_new outcome =
    RunsLine line input input_new output output_new outcome
RunsTask (Generate lines) input input_new output output_new outcome =
    RunsGenerated lines input input_new output output_new outcome
RunsTask (WriteAnew r) input input_new output output_new outcome = RunsAnew r input input_new output output_new outcome

-- A command line can be run: its commands close no mark too many, and the input can be read.
pub record CanRunLine (line : CommandLine) (left : Option (List ℕ)) : Type 0 where
  pub marks : HasMarks (listed_commands line.commands)
  pub input : CanBeRead left

-- A source can be written anew: the input can be read, and the report of a session over it has no row with a
-- diagnostic.
pub record CanWriteAnew (r : Rewriting) (left : Option (List ℕ)) : Type 0 where
  pub input : CanBeRead left
  pub clean : ¬ (IsDiagnosed (lexes_anew r) input.bytes)

-- A run can only be done, or out of memory, if neither the input nor the output fails: the words ask for generated
-- lines, whatever the input is, for a command line that can be run, or for a source that can be written anew.
abbrev pub CanRun : Option Task → Option (List ℕ) → Type 0
CanRun None left = ⊥
CanRun (Some (Lex line)) left = CanRunLine line left
CanRun (Some (Generate lines)) left = ⊤
CanRun (Some (WriteAnew r)) left = CanWriteAnew r left

-- What a run of the program comes to, by what its words ask for, and by what its input and its output tell before and
-- after it.
pub record RunsTool (words : Option Task) (input input_new : InputState) (output output_new : OutputState)
    (outcome : ToolOutcome) : Type 0 where
  pub known : IsOneOf (OutOfMemory ∷ order) outcome.status
  -- the words are read first: where they ask for nothing that there is, nothing else is done
  pub usage : Tests Usage outcome.status (words ≡ None) (IsSome words)
  pub unread : words ≡ None → (outcome.ran ≡ None) × (input_new ≡ input) × (output_new ≡ output)
  pub runs : IfSome words (λ task. RunsTask task input input_new output output_new outcome)
  -- no other status comes of words and of bytes that can be run, where neither end fails
  pub complete : CanRun words input.left → (¬ (Rises input.faults input_new.faults))
      → (¬ (Rises output.faults output_new.faults)) → IsOneOf (Done ∷ OutOfMemory ∷ []) outcome.status
