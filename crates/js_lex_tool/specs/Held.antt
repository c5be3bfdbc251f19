-- Texts that are written in pieces as they are made.
use Rattle.std.specs.Prelude.{◌≡◌, ◌⊎◌, ℕ, List, ◌++◌, Result, Ok, Err}
use Rattle.js_process.specs.Outside.{OutputState, InTime}
use Rattle.js_process.specs.Status.{CountsFault, number, HasPassed}
use Rattle.js_process.specs.Status.Status.{OutOfMemory, WriteFailed, NoMark}
use Rattle.js_process.specs.Writing.{StopsIn, Writes, WritesOn}
use Rattle.js_process.specs.declared.write_all.WriteFault.{WriteFault}

-- A text comes behind what is held back. Of both, a beginning was written, and the rest is held back now.
abbrev pub HandsOn : {A : Type 0} → List ℕ → List ℕ → List ℕ → OutputState → OutputState → Result A WriteFault → Type 0
HandsOn text held held_new old new (Ok a) = (out : List ℕ) × (out ++ held_new ≡ held ++ text) × WritesOn out old new
HandsOn text held held_new old new (Err fault) = StopsIn (held ++ text) old new fault

-- What writing a text to its end comes to, with its flush, by the status that it leads to.
pub record EndsWriting (text : List ℕ) (old new : OutputState) (n : ℕ) : Type 0 where
  pub status : (n ≡ number OutOfMemory) ⊎ HasPassed NoMark n
  pub writes : Writes text old new n
  pub faults : CountsFault WriteFailed n old.faults new.faults
  -- no call came after a write or a flush that failed
  pub in_time : InTime old.course new.course
