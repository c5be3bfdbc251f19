-- What a run comes to whose words ask for something, and one whose words do not.
use Rattle.std.proofs.Common.{◌≡◌, ◌≢◌, ℕ, ◌≤◌, ◌⊎◌, List, [], ◌∷◌, length, arith, refl, sym, inl, inr, subst}
use Rattle.std.proofs.Common.{Option, None, Some, append-nil, length-append}
use Rattle.std.specs.Io.KnownBytes.{Consumes, IsAtEnd}
use Rattle.std.proofs.KnownBytes.{Consumes-nil}
use Rattle.js_process.specs.Outside.{InputState, OutputState, Rises}
use Rattle.js_process.specs.Reads.{CanBeRead}
use Rattle.js_process.specs.Status.{number, later_than, IsOneOf}
use Rattle.js_process.specs.Status.Status.{Done, OutOfMemory, Usage, ReadFailed, WriteFailed, TooLong, NotUtf8, NoMark}
use Rattle.js_process.specs.Status.Status.{Diagnosed}
use Rattle.js_process.proofs.Courses.{InTime-refl}
use Rattle.js_lex_tool.specs.Generated.{generated, summary_of}
use Rattle.js_lex_tool.specs.ReportText.{report_text_of}
use Rattle.js_lex_tool.specs.Run.{Answers, AnswersAnew, CanRun, ReadsInput, RunsTask, RunsTool, lexes_lines}
use Rattle.js_lex_tool.specs.declared.tool.ToolOutcome.{ToolOutcome}
use Rattle.js_lex_tool.specs.declared.words.Task.{Task}
use Rattle.js_lex_tool.specs.declared.words.Task.TheVariants.{Lex, Generate, WriteAnew}
use Rattle.js_lex_tool.proofs.Answering.{without_run, answers_at_memory}

-- What was taken of known bytes up to the end is all of them.
pub all_taken : (bytes taken : List ℕ) (new : Option (List ℕ)) → Consumes (Some bytes) new taken → IsAtEnd new
    → taken ≡ bytes
all_taken bytes taken None took end = absurd took
all_taken bytes taken (Some left) took end = sym (rw (end, append-nil) at took)

-- no more is taken of known bytes than there are
taken_few : (bytes taken : List ℕ) (new : Option (List ℕ)) → Consumes (Some bytes) new taken
    → length taken ≤ length bytes
taken_few bytes taken None took = absurd took
taken_few bytes taken (Some left) took = rw took (omega (arith, length-append taken left))

two_left : (n : ℕ) → IsOneOf (OutOfMemory ∷ NotUtf8 ∷ NoMark ∷ WriteFailed ∷ Done ∷ []) n → n ≢ 4 → n ≢ 6 → n ≢ 7
    → IsOneOf (Done ∷ OutOfMemory ∷ []) n
two_left n known a b c = grind (arith, known)

two_left_anew : (n : ℕ) → IsOneOf (OutOfMemory ∷ NotUtf8 ∷ Diagnosed ∷ WriteFailed ∷ Done ∷ []) n → n ≢ 4 → n ≢ 6
    → n ≢ 9 → IsOneOf (Done ∷ OutOfMemory ∷ []) n
two_left_anew n known a b c = grind (arith, known)

one_left : (n : ℕ) → IsOneOf (OutOfMemory ∷ ReadFailed ∷ TooLong ∷ []) n → n ≢ 3 → n ≢ 5
    → IsOneOf (Done ∷ OutOfMemory ∷ []) n
one_left n known a b = grind (arith, known)

three_left : (n : ℕ) → IsOneOf (OutOfMemory ∷ WriteFailed ∷ Done ∷ []) n → n ≢ 4 → IsOneOf (Done ∷ OutOfMemory ∷ []) n
three_left n known a = grind (arith, known)

-- A run whose input can be read, and does not fail, ends as its answer to the bytes does.
reads_complete : (AnswersTo : List ℕ → OutputState → OutputState → ToolOutcome → Type 0) (input input_new : InputState)
    (output output_new : OutputState) (outcome : ToolOutcome)
    → ReadsInput AnswersTo input input_new output output_new outcome → (can : CanBeRead input.left)
    → ¬ (Rises input.faults input_new.faults)
    → (AnswersTo can.bytes output output_new outcome → IsOneOf (Done ∷ OutOfMemory ∷ []) outcome.status)
    → IsOneOf (Done ∷ OutOfMemory ∷ []) outcome.status
reads_complete AnswersTo input input_new output output_new outcome runs can no_read_fault ends =
    let took : Consumes (Some can.bytes) input_new.left runs.bytes = rw can.left_is at runs.read in
    let few = taken_few can.bytes runs.bytes input_new.left took in
    elim runs.ends [
      | inl gave ↦ one_left outcome.status gave.known (λ e. no_read_fault (runs.faults.rises e))
          (λ e. omega (arith, few, can.few, (runs.long (λ other. omega (arith, e, other))).0 e))
      | inr answers ↦
          let all = all_taken can.bytes runs.bytes input_new.left took answers.0 in
          ends (subst (λ b. AnswersTo b output output_new outcome) all answers.1)
    ]

-- A run over words and bytes that can be run, whose two ends don't fail, is done or out of memory.
pub completes : (task : Task) (input input_new : InputState) (output output_new : OutputState) (outcome : ToolOutcome)
    → RunsTask task input input_new output output_new outcome → CanRun (Some task) input.left
    → ¬ (Rises input.faults input_new.faults) → ¬ (Rises output.faults output_new.faults)
    → IsOneOf (Done ∷ OutOfMemory ∷ []) outcome.status
completes (Lex line) input input_new output output_new outcome runs can no_read_fault no_write_fault =
    reads_complete (λ bytes. Answers line bytes (report_text_of bytes)) input input_new output output_new outcome runs
    can.input no_read_fault
    (λ a. two_left outcome.status a.known (λ e. no_write_fault (a.faults.rises e)) (λ e. a.utf8.fails e can.input.utf8)
    (λ e. a.marks.fails e can.marks))
completes (WriteAnew r) input input_new output output_new outcome runs can no_read_fault no_write_fault =
    reads_complete (AnswersAnew r) input input_new output output_new outcome runs can.input no_read_fault
    (λ a. two_left_anew outcome.status a.known (λ e. no_write_fault (a.faults.rises e))
    (λ e. a.utf8.fails e can.input.utf8) (λ e. can.clean (a.rows.fails e)))
completes (Generate lines) input input_new output output_new outcome runs can no_read_fault no_write_fault =
    three_left outcome.status runs.known (λ e. no_write_fault (runs.answers.faults.rises e))

-- every status of a run is one that is known
known_task : (task : Task) (input input_new : InputState) (output output_new : OutputState) (outcome : ToolOutcome)
    → RunsTask task input input_new output output_new outcome
    → IsOneOf (later_than Usage) outcome.status ⊎ (outcome.status ≡ number OutOfMemory)
known_task (Lex line) input input_new output output_new outcome runs = elim runs.ends [
  | inl gave ↦ let known = gave.known in grind (arith, known)
  | inr answers ↦ let known = answers.1.known in grind (arith, known)
]
known_task (WriteAnew r) input input_new output output_new outcome runs = elim runs.ends [
  | inl gave ↦ let known = gave.known in grind (arith, known)
  | inr answers ↦ let known = answers.1.known in grind (arith, known)
]
known_task (Generate lines) input input_new output output_new outcome runs =
    let known = runs.known in grind (arith, known)

-- The words of a run ask for something, and that has run.
pub runs_task : (words : Option Task) (task : Task) (input input_new : InputState) (output output_new : OutputState)
    (outcome : ToolOutcome) → words ≡ Some task → RunsTask task input input_new output output_new outcome
    → RunsTool words input input_new output output_new outcome
runs_task words task input input_new output output_new outcome is runs =
    let known = known_task task input input_new output output_new outcome runs in
    rw is (record {
      known = grind (arith, known);
      usage = record { fails = λ e. absurd (omega (arith, e, known)); passes = λ _. refl };
      unread = λ e. absurd cc;
      runs = runs;
      complete = completes task input input_new output output_new outcome runs;
    })

-- there was no memory for what the words ask for
task_out : (task : Task) (input : InputState) (output : OutputState)
    → RunsTask task input input output output (without_run 1)
task_out (Lex line) input output = record {
  bytes = [];
  read = Consumes-nil input.left;
  bounded = omega arith;
  long = λ other. absurd (other refl);
  faults = record { rises = λ e. absurd (omega (arith, e)); stays = λ _. refl };
  in_time = InTime-refl input.course;
  ends = inl (record { known = inl refl; ran = refl; quiet = refl });
}
task_out (WriteAnew r) input output = record {
  bytes = [];
  read = Consumes-nil input.left;
  bounded = omega arith;
  long = λ other. absurd (other refl);
  faults = record { rises = λ e. absurd (omega (arith, e)); stays = λ _. refl };
  in_time = InTime-refl input.course;
  ends = inl (record { known = inl refl; ran = refl; quiet = refl });
}
task_out (Generate lines) input output = record {
  known = inl refl;
  unread = refl;
  answers = answers_at_memory lexes_lines (generated lines) (summary_of lines) output;
}

-- there was no memory for the words
pub runs_out : (words : Option Task) (input : InputState) (output : OutputState)
    → RunsTool words input input output output (without_run 1)
runs_out None input output = record {
  known = inl refl;
  usage = record { fails = λ e. absurd (omega (arith, e)); passes = λ h. absurd (omega (arith, h)) };
  unread = λ _. (refl, refl, refl);
  runs = tt;
  complete = λ can. absurd can;
}
runs_out (Some task) input output =
    runs_task (Some task) task input input output output (without_run 1) refl (task_out task input output)

-- A status that an end calls for does not come where that end does not fail.
pub never_fails : (words : Option Task) (input input_new : InputState) (output output_new : OutputState)
    (outcome : ToolOutcome) → RunsTool words input input_new output output_new outcome
    → ¬ (Rises input.faults input_new.faults) → ¬ (Rises output.faults output_new.faults)
    → (outcome.status ≢ number ReadFailed) × (outcome.status ≢ number WriteFailed)
never_fails None input input_new output output_new outcome runs no_read_fault no_write_fault = (
  λ e. absurd (let passed = runs.usage.passes (inl e) in cc),
  λ e. absurd (let passed = runs.usage.passes (inr (inr (inr (inr (inr (inl e)))))) in cc),
)
never_fails (Some (Lex line)) input input_new output output_new outcome runs no_read_fault no_write_fault = (
  λ e. no_read_fault (runs.runs.faults.rises e),
  λ e. elim runs.runs.ends [
    | inl gave ↦ let known = gave.known in omega (arith, e, known)
    | inr answers ↦ no_write_fault (answers.1.faults.rises e)
  ],
)
never_fails (Some (WriteAnew r)) input input_new output output_new outcome runs no_read_fault no_write_fault = (
  λ e. no_read_fault (runs.runs.faults.rises e),
  λ e. elim runs.runs.ends [
    | inl gave ↦ let known = gave.known in omega (arith, e, known)
    | inr answers ↦ no_write_fault (answers.1.faults.rises e)
  ],
)
never_fails (Some (Generate lines)) input input_new output output_new outcome runs no_read_fault no_write_fault = (
  λ e. let known = runs.runs.known in omega (arith, e, known),
  λ e. no_write_fault (runs.runs.answers.faults.rises e),
)
