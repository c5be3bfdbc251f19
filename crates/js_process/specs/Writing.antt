-- Texts that are written: what was written of one, and what that came to.
use Rattle.std.specs.Prelude.{◌≡◌, ℕ, List, Result, Ok, Err}
use Rattle.std.specs.Io.KnownBytes.{Appends}
use Rattle.js_process.specs.Outside.{OutputState, WritesAll, WritesPrefix, StaysOpen, InTime}
use Rattle.js_process.specs.Status.{Status, number, CountsFault}
use Rattle.js_process.specs.Status.Status.{Done, OutOfMemory, WriteFailed}
use Rattle.js_process.specs.declared.write_all.WriteFault.{WriteFault}
use Rattle.js_process.specs.declared.write_all.WriteFault.TheVariants.{Failed, Memory}

-- What was written of a text: a beginning of it, and all of it, flushed, where the run is done.
pub record Writes (text : List ℕ) (old new : OutputState) (n : ℕ) : Type 0 where
  pub partly : WritesPrefix old new text
  pub whole : n ≡ number Done → WritesAll old new text

-- the status that a fault of writing leads to
abbrev pub status_of_fault : WriteFault → Status
status_of_fault Failed = WriteFailed
status_of_fault Memory = OutOfMemory

-- All of a text was written, and no call has failed.
pub record WritesOn (text : List ℕ) (old new : OutputState) : Type 0 where
  pub written : Appends old.written new.written text
  pub faults : new.faults ≡ old.faults
  pub stays_open : StaysOpen old.course new.course

-- A beginning of a text was written, and then came a fault.
pub record StopsIn (text : List ℕ) (old new : OutputState) (fault : WriteFault) : Type 0 where
  pub written : WritesPrefix old new text
  pub faults : CountsFault WriteFailed (number (status_of_fault fault)) old.faults new.faults
  pub in_time : InTime old.course new.course

-- What writing a text comes to that is not flushed.
abbrev pub WritesUnflushed : {A : Type 0} → List ℕ → OutputState → OutputState → Result A WriteFault → Type 0
WritesUnflushed text old new (Ok a) = WritesOn text old new
WritesUnflushed text old new (Err fault) = StopsIn text old new fault
