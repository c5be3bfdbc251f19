-- What telling of an input comes to.
use Rattle.std.specs.Prelude.{◌≡◌, ◌⊎◌, ℕ, ◌^◌, Bool, true, false, List, length, Result, Ok, Err}
use Rattle.std.specs.Io.KnownBytes.{Consumes, IsAtEnd}
use Rattle.js_choose.specs.Faults.{ChoiceCause}
use Rattle.js_choose.specs.declared.fault.ChoiceFault.TheVariants as choice_fault
use Rattle.js_process.specs.Outside.{InputState, OutputState, InTime, Rises, Takes}
use Rattle.js_process.specs.Writing.{StopsIn, WritesOn}
use Rattle.js_process.specs.declared.write_all.WriteFault.TheVariants as write_fault
use Rattle.js_text.specs.declared.source_type.SourceType.{SourceType}
use Rattle.js_totsenak.specs.Syntaxes.{rule_of}
use Rattle.js_totsenak.specs.Told.{IsTold}
use Rattle.js_totsenak.specs.declared.syntax.Syntax.{Syntax}
use Rattle.js_totsenak.specs.declared.run.RunFault.{RunFault}
use Rattle.js_totsenak.specs.declared.command.Command.{Command}
use Rattle.js_totsenak.specs.declared.run.RunFault.TheVariants.{Unreadable, Overlong, NotUtf8, Memory, Unwritable}

-- What telling of the bytes of a source with a name comes to: what a command tells of it is written, and whether it is
-- faulty is answered; or there is a cause for which it is not.
abbrev pub TellsOfBytes : Command → Syntax → List ℕ → List ℕ → SourceType → OutputState → OutputState
    → Result Bool RunFault → Type 0
TellsOfBytes command syntax name source t old new (Ok is_faulty) =
    (text : List ℕ) × IsTold (rule_of syntax) command name source t text is_faulty × WritesOn text old new
TellsOfBytes command syntax name source t old new (Err Unreadable) = ⊥
TellsOfBytes command syntax name source t old new (Err Overlong) =
    ChoiceCause source choice_fault.Overlong × (new ≡ old)
TellsOfBytes command syntax name source t old new (Err (NotUtf8 at)) =
    ChoiceCause source (choice_fault.NotUtf8 at) × (new ≡ old)
TellsOfBytes command syntax name source t old new (Err Memory) =
    (new ≡ old) ⊎ ((text : List ℕ) × (is_faulty : Bool) × IsTold (rule_of syntax) command name source t text is_faulty
    × StopsIn text old new write_fault.Memory)
TellsOfBytes command syntax name source t old new (Err Unwritable) =
    (text : List ℕ) × (is_faulty : Bool) × IsTold (rule_of syntax) command name source t text is_faulty
    × StopsIn text old new write_fault.Failed

-- The input was not read to its end: it failed, it has 2 ^ 32 bytes or more, or there was no memory for them.
abbrev pub GivesUpOn : InputState → InputState → Result Bool RunFault → Type 0
GivesUpOn old new (Ok is_faulty) = ⊥
GivesUpOn old new (Err Unreadable) = Rises old.faults new.faults
GivesUpOn old new (Err Overlong) = Takes old new (λ bytes. length bytes ≡ 2 ^ 32)
GivesUpOn old new (Err (NotUtf8 at)) = ⊥
GivesUpOn old new (Err Memory) = Unit {0}
GivesUpOn old new (Err Unwritable) = ⊥

-- What telling of an input with a name comes to: it was not read to its end, and nothing was written; or all its bytes
-- were read, and it is told of them.
pub record TellsOfInput (command : Command) (syntax : Syntax) (name : List ℕ) (t : SourceType)
    (input input_new : InputState) (output output_new : OutputState) (result : Result Bool RunFault) : Type 0 where
  pub ends : (GivesUpOn input input_new result × (output_new ≡ output))
      ⊎ ((bytes : List ℕ) × Consumes input.left input_new.left bytes × IsAtEnd input_new.left
      × TellsOfBytes command syntax name bytes t output output_new result)
  -- no read came after one that found the end, nor after one that failed
  pub in_time : InTime input.course input_new.course

-- the exit status that an answer leads to: 1 for a faulty source, 2 for one that is not told of, 3 for want of memory,
-- and 4 where the output failed
abbrev pub status_of : Result Bool RunFault → ℕ
status_of (Ok true) = 1
status_of (Ok false) = 0
status_of (Err Unreadable) = 2
status_of (Err Overlong) = 2
status_of (Err (NotUtf8 at)) = 2
status_of (Err Memory) = 3
status_of (Err Unwritable) = 4
