-- What a run answers once its input was read.
use Rattle.std.proofs.Common.{◌≡◌, ℕ, ◌<◌, ◌≤◌, ◌^◌, ◌⊎◌, List, [], ◌∷◌, length, arith, refl, inl, inr, None, Some}
use Rattle.std.proofs.KnownBytes.{Keeps-refl}
use Rattle.std.specs.Str.{IsUtf8}
use Rattle.js_session.specs.Faults.{IsReadable, HasMarks, Cause, FirstWithoutMark, SourceCause}
use Rattle.js_session.specs.declared.fault.LexFault.{LexFault}
use Rattle.js_session.specs.declared.fault.LexFault.TheVariants.{Overlong, NotUtf8 as NotUtf8Fault}
use Rattle.js_session.specs.declared.fault.LexFault.TheVariants.{NoMark as NoMarkFault, Memory}
use Rattle.js_session.specs.declared.report.Report.{Report}
use Rattle.js_process.specs.Outside.{InTime, OutputState}
use Rattle.js_process.specs.Reads.{most_bytes}
use Rattle.js_process.specs.Status.{CountsFault, number, IsOneOf, HasPassed, Tests}
use Rattle.js_process.specs.Status.Status.{OutOfMemory, WriteFailed, NotUtf8, NoMark}
use Rattle.js_process.specs.Writing.{Writes}
use Rattle.js_process.proofs.Courses.{InTime-refl}
use Rattle.js_lex_tool.specs.Run.{status_of, Answers, HasReport, IsRunOver, listed_commands}
use Rattle.js_lex_tool.specs.declared.tool.Ran.{Ran}
use Rattle.js_lex_tool.specs.declared.tool.ToolOutcome.{ToolOutcome}
use Rattle.js_lex_tool.specs.declared.words.CommandLine.{CommandLine}

-- the outcome of a run that has no report
abbrev pub without_run : ℕ → ToolOutcome
without_run n = record { status = n; ran = None }

without_mark : (line : CommandLine) (index : ℕ) → FirstWithoutMark (listed_commands line.commands) index
    → ¬ (HasMarks (listed_commands line.commands))
without_mark line index first marks = marks index first.here

-- A run without a report has written nothing; what is left to show are its two tests.
refusal : (line : CommandLine) (bytes : List ℕ) (text_of : Report → List ℕ) (output : OutputState) (n : ℕ)
    → IsOneOf (OutOfMemory ∷ NotUtf8 ∷ NoMark ∷ []) n → Tests NotUtf8 n (¬ (IsUtf8 bytes)) (IsUtf8 bytes)
    → Tests NoMark n (¬ (HasMarks (listed_commands line.commands))) (HasMarks (listed_commands line.commands))
    → Answers line bytes text_of output output (without_run n)
refusal line bytes text_of output n is utf8 marks = record {
  known = grind (arith, is);
  utf8 = utf8;
  marks = marks;
  has_run = (λ some. absurd cc, λ passed. absurd (omega (arith, is, passed)));
  ran = tt;
  text = tt;
  faults = record { rises = λ e. absurd (omega (arith, is, e)); stays = λ _. refl };
  in_time = InTime-refl output.course;
  quiet = λ _ _. refl;
  memory = λ _. inl (Keeps-refl output.written);
}

-- A fault's status is the one that its bytes and commands call for.
pub answers_at_fault : (line : CommandLine) (bytes : List ℕ) (text_of : Report → List ℕ) (output : OutputState)
    (fault : LexFault) → length bytes ≤ most_bytes → Cause bytes (listed_commands line.commands) fault
    → Answers line bytes text_of output output (without_run (number (status_of fault)))
answers_at_fault line bytes text_of output Overlong few cause = absurd (omega (arith, few, cause))
answers_at_fault line bytes text_of output (NotUtf8Fault at) few cause =
    refusal line bytes text_of output 6 (inr (inl refl))
    (record { fails = λ _. cause.1; passes = λ h. absurd (omega (arith, h)) })
    (record { fails = λ e. absurd (omega (arith, e)); passes = λ h. absurd (omega (arith, h)) })
answers_at_fault line bytes text_of output (NoMarkFault index) few cause =
    refusal line bytes text_of output 7 (inr (inr (inl refl)))
    (record { fails = λ e. absurd (omega (arith, e)); passes = λ _. cause.0.utf8 })
    (record { fails = λ _. without_mark line index cause.1; passes = λ h. absurd (omega (arith, h)) })
answers_at_fault line bytes text_of output Memory few cause = absurd cause

-- a run that is out of memory has failed none of the tests, and passed none
pub answers_at_memory : (line : CommandLine) (bytes : List ℕ) (text_of : Report → List ℕ) (output : OutputState)
    → Answers line bytes text_of output output (without_run 1)
answers_at_memory line bytes text_of output = refusal line bytes text_of output 1 (inl refl)
    (record { fails = λ e. absurd (omega (arith, e)); passes = λ h. absurd (omega (arith, h)) })
    (record { fails = λ e. absurd (omega (arith, e)); passes = λ h. absurd (omega (arith, h)) })

-- What a session's fault comes to.
pub answers_at_refusal : (line : CommandLine) (bytes : List ℕ) (text_of : Report → List ℕ) (output : OutputState)
    (fault : LexFault) → length bytes ≤ most_bytes
    → (fault ≡ Memory) ⊎ Cause bytes (listed_commands line.commands) fault
    → Answers line bytes text_of output output (without_run (number (status_of fault)))
answers_at_refusal line bytes text_of output fault few (inl e) = rw e (answers_at_memory line bytes text_of output)
answers_at_refusal line bytes text_of output fault few (inr cause) =
    answers_at_fault line bytes text_of output fault few cause

-- the report of what ran is one over the bytes
pub report_over : (line : CommandLine) (bytes : List ℕ) (ran : Ran) → IsRunOver line bytes ran
    → HasReport line bytes ran.report
report_over line bytes ran over = (
  ran.commands,
  rw (over.source, over.source_type, over.tokens) at over.commands,
  rw (over.source, over.source_type, over.tokens) at over.report,
)

-- A run that has its report has passed both tests, or is out of memory.
pub answers_at_report : (line : CommandLine) (bytes : List ℕ) (text_of : Report → List ℕ) (ran : Ran)
    (old new : OutputState) (outcome : ToolOutcome) → IsReadable bytes → HasMarks (listed_commands line.commands)
    → IsRunOver line bytes ran
    → (outcome ≡ without_run 1) ⊎ (HasPassed NoMark outcome.status × (outcome.ran ≡ Some ran))
    → Writes (text_of ran.report) old new outcome.status
    → CountsFault WriteFailed outcome.status old.faults new.faults → InTime old.course new.course
    → Answers line bytes text_of old new outcome
answers_at_report line bytes text_of ran old new outcome readable marks over (inl e) writes faults in_time = record {
  known = rw e (inl refl);
  utf8 = rw e (record { fails = λ h. absurd (omega (arith, h)); passes = λ h. absurd (omega (arith, h)) });
  marks = rw e (record { fails = λ h. absurd (omega (arith, h)); passes = λ h. absurd (omega (arith, h)) });
  has_run = rw e (λ some. absurd cc, λ passed. absurd (omega (arith, passed)));
  ran = rw e tt;
  text = rw e tt;
  faults = faults;
  in_time = in_time;
  quiet = rw e (λ _ other. absurd (other refl));
  memory = λ _. inr (ran.report, report_over line bytes ran over, writes.partly);
}
answers_at_report line bytes text_of ran old new outcome readable marks over (inr has) writes faults in_time =
    let passed = has.0 in
    record {
      known = grind (arith, passed);
      utf8 = record { fails = λ e. absurd (omega (arith, e, passed)); passes = λ _. readable.utf8 };
      marks = record { fails = λ e. absurd (omega (arith, e, passed)); passes = λ _. marks };
      has_run = (λ _. passed, λ _. rw has.1 refl);
      ran = rw has.1 over;
      text = rw has.1 writes;
      faults = faults;
      in_time = in_time;
      quiet = λ other. absurd (other passed);
      memory = λ e. absurd (omega (arith, e, passed));
    }

-- A source that can be read has no fault but a lack of memory.
pub memory_alone : (source : List ℕ) (fault : LexFault) → length source < 2 ^ 32 → IsUtf8 source
    → (fault ≡ Memory) ⊎ SourceCause source fault → fault ≡ Memory
memory_alone source fault short utf8 (inl e) = e
memory_alone source Overlong short utf8 (inr cause) = absurd (omega (arith, short, cause))
memory_alone source (NotUtf8Fault at) short utf8 (inr cause) = absurd (cause.1 utf8)
memory_alone source (NoMarkFault index) short utf8 (inr cause) = absurd cause
memory_alone source Memory short utf8 (inr cause) = absurd cause
