-- What reads, writes and flushes do to known bytes and to a count of faults, and which of them come too late.
use Rattle.std.specs.Prelude.{◌≡◌, ◌≢◌, ℕ, ◌-◌, ◌^◌, ◌<◌, ◌≤◌, ◌⊎◌, ◌==◌, Bool, true, false, List, length, take, ⊤}
use Rattle.std.specs.Prelude.{Some, Result, Ok, Err, if◌then◌else◌}
use Rattle.std.specs.declared.option.Option.{Option}
use Rattle.std.specs.Io.KnownBytes.{Appends, Consumes, Keeps, IsAtEnd}
use Rattle.std.specs.Option.{option_map}
use Rattle.js_process.specs.declared.outside.Course.{Course}
use Rattle.js_process.specs.declared.outside.Course.TheVariants.{Open, Over, Late}
use Rattle.js_process.specs.declared.outside.InAnswer.{InAnswer}
use Rattle.js_process.specs.declared.outside.InAnswer.TheVariants.{Took, End, Failed}
use Rattle.js_process.specs.declared.outside.OutAnswer.{OutAnswer}
use Rattle.js_process.specs.declared.outside.OutAnswer.TheVariants.{Took as TookOut, NoMemory, Failed as FailedOut}
use Rattle.js_process.specs.declared.outside.FlushAnswer.{FlushAnswer}
use Rattle.js_process.specs.declared.outside.FlushAnswer.TheVariants.{Done, Failed as FailedFlush}

-- What an input tells: the bytes that are left, where it tells them; how many of its calls have failed; and how far its
-- calls have come, where it tells that.
pub record InputState : Type 0 where
  pub left : Option (List ℕ)
  pub faults : ℕ
  pub course : Option Course

-- What an output tells: the bytes that were written, and those of them that were flushed, where it tells them; how many
-- of its calls have failed; and how far its calls have come, where it tells that.
pub record OutputState : Type 0 where
  pub written : Option (List ℕ)
  pub flushed : Option (List ℕ)
  pub faults : ℕ
  pub course : Option Course

-- how far the calls have come after one more; `last` says that none may come after it
abbrev pub course_after : Course → Bool → Course
course_after Open last = if last then Over else Open
course_after Over last = Late
course_after Late last = Late

-- a call moves the course on, where it is told
abbrev pub MovesOn : Bool → Option Course → Option Course → Type 0
MovesOn last old new = new ≡ option_map (λ c. course_after c last) old

-- no call came after one that was the last
abbrev pub InTime : Option Course → Option Course → Type 0
InTime old new = old ≡ Some Open → new ≢ Some Late

-- none of the calls was the last
abbrev pub StaysOpen : Option Course → Option Course → Type 0
StaysOpen old new = old ≡ Some Open → new ≡ Some Open

-- the last of the calls, and no other, was one that none may come after
abbrev pub Closes : Option Course → Option Course → Type 0
Closes old new = old ≡ Some Open → new ≡ Some Over

-- no read may come after one that has found the end or has failed
abbrev pub is_last_read : InAnswer → Bool
is_last_read (Took n) = false
is_last_read End = true
is_last_read Failed = true

-- no call may come after a write that has failed
abbrev pub is_last_write : OutAnswer → Bool
is_last_write (TookOut n) = false
is_last_write NoMemory = true
is_last_write FailedOut = true

-- no call may come after a flush that has failed
abbrev pub is_last_flush : FlushAnswer → Bool
is_last_flush Done = false
is_last_flush FailedFlush = true

-- what a read of the system comes to: no byte is the end, and an error a failure
abbrev pub read_comes_to : {E : Type 0} → Result ℕ E → InAnswer
read_comes_to (Ok n) = if n == 0 then End else Took n
read_comes_to (Err e) = Failed

-- what a write of the system comes to: no byte is a failure, as an error is
abbrev pub write_comes_to : {E : Type 0} → Result ℕ E → OutAnswer
write_comes_to (Ok n) = if n == 0 then FailedOut else TookOut n
write_comes_to (Err e) = FailedOut

-- what a flush of the system comes to
abbrev pub flush_comes_to : {A E : Type 0} → Result A E → FlushAnswer
flush_comes_to (Ok a) = Done
flush_comes_to (Err e) = FailedFlush

-- a count of faults has risen, or stands at the end of a `u64`
abbrev pub Rises : ℕ → ℕ → Type 0
Rises before now = (before < now) ⊎ ((before ≡ now) × (now ≡ 2 ^ 64 - 1))

-- a read gives at least one byte and at most the buffer
abbrev pub TakesAtMost : InAnswer → ℕ → Type 0
TakesAtMost (Took n) room = (1 ≤ n) × (n ≤ room)
TakesAtMost End room = ⊤
TakesAtMost Failed room = ⊤

-- the bytes that a read gives are the first of those that were left; the end comes where none is left
abbrev pub TakesBytes : InAnswer → Option (List ℕ) → Option (List ℕ) → List ℕ → Type 0
TakesBytes (Took n) old new buf = Consumes old new (take n buf)
TakesBytes End old new buf = Keeps old new × IsAtEnd new
TakesBytes Failed old new buf = Keeps old new

-- the count of faults rises exactly where a read fails
abbrev pub CountsRead : InAnswer → ℕ → ℕ → Type 0
CountsRead (Took n) before now = now ≡ before
CountsRead End before now = now ≡ before
CountsRead Failed before now = Rises before now

-- a write takes at least one byte and at most those that it was given
abbrev pub GivesAtMost : OutAnswer → ℕ → Type 0
GivesAtMost (TookOut n) given = (1 ≤ n) × (n ≤ given)
GivesAtMost NoMemory given = ⊤
GivesAtMost FailedOut given = ⊤

-- what was written grows by the bytes that a write took, and by none at another answer
abbrev pub GivesBytes : OutAnswer → Option (List ℕ) → Option (List ℕ) → List ℕ → Type 0
GivesBytes (TookOut n) old new bytes = Appends old new (take n bytes)
GivesBytes NoMemory old new bytes = Keeps old new
GivesBytes FailedOut old new bytes = Keeps old new

-- the count of faults rises exactly where a write fails
abbrev pub CountsWrite : OutAnswer → ℕ → ℕ → Type 0
CountsWrite (TookOut n) before now = now ≡ before
CountsWrite NoMemory before now = now ≡ before
CountsWrite FailedOut before now = Rises before now

-- all that was written was flushed, where the output tells what was
abbrev pub IsFlushed : OutputState → Type 0
IsFlushed output = Keeps output.flushed output.written

-- a flush that is done has flushed all that was written
abbrev pub Flushes : FlushAnswer → OutputState → Type 0
Flushes Done now = IsFlushed now
Flushes FailedFlush now = ⊤

-- the count of faults rises exactly where a flush fails
abbrev pub CountsFlush : FlushAnswer → ℕ → ℕ → Type 0
CountsFlush Done before now = now ≡ before
CountsFlush FailedFlush before now = Rises before now

-- bytes that have P were taken from an input, where it tells what is left
abbrev pub Takes : InputState → InputState → (List ℕ → Type 0) → Type 0
Takes old new P = (bytes : List ℕ) × Consumes old.left new.left bytes × P bytes

-- all of the text was written and flushed, where the output tells what was
pub record WritesAll (old new : OutputState) (text : List ℕ) : Type 0 where
  pub written : Appends old.written new.written text
  pub flushed : IsFlushed new

-- a beginning of the text was written, where the output tells what was
abbrev pub WritesPrefix : OutputState → OutputState → List ℕ → Type 0
WritesPrefix old new text = (n : ℕ) × (n ≤ length text) × Appends old.written new.written (take n text)
