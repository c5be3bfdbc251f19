-- Inputs and outputs in memory: their states, and what each call answers and leaves.
use Rattle.std.specs.Prelude.{Some, ◌≡◌, ℕ, ◌+◌, ◌-◌, ◌^◌, Bool, List, ◌++◌, min, length, take, drop, if◌then◌else◌}
use Rattle.std.specs.Prelude.{◌==◌, ⊤, MatchBool}
use Rattle.std.specs.List.{list_any}
use Rattle.js_process.specs.declared.outside.InAnswer.{InAnswer}
use Rattle.js_process.specs.declared.outside.InAnswer.TheVariants.{Took, End, Failed}
use Rattle.js_process.specs.declared.outside.OutAnswer.{OutAnswer}
use Rattle.js_process.specs.declared.outside.OutAnswer.TheVariants.{Took as TookOut, NoMemory, Failed as FailedOut}
use Rattle.js_process.specs.declared.outside.FlushAnswer.{FlushAnswer}
use Rattle.js_process.specs.declared.outside.FlushAnswer.TheVariants.{Done, Failed as FailedFlush}
use Rattle.js_process.specs.declared.outside.Course.{Course}
use Rattle.js_process.specs.Outside.{InputState, OutputState, course_after, is_last_read, is_last_write, is_last_flush}

-- The calls of an end in memory: the numbers of those that fail, the number of the next one, and how many failed.
pub record Calls : Type 0 where
  pub failing : List ℕ
  pub next : ℕ
  pub faults : ℕ

-- one more, up to the end of a `u64`
abbrev pub one_more : ℕ → ℕ
one_more n = min (n + 1) (2 ^ 64 - 1)

-- no call was made yet
abbrev pub no_calls : List ℕ → Calls
no_calls failing = record { failing = failing; next = 0; faults = 0 }

-- the next call fails
abbrev pub next_fails : Calls → Bool
next_fails c = list_any (λ n. n == c.next) c.failing

-- the calls after one more
abbrev pub after_call : Calls → Calls
after_call c = record c { next = one_more c.next; faults = if next_fails c then one_more c.faults else c.faults }

-- An input in memory that never fails: the bytes left, the most that a read gives, and how far its calls have come.
pub record SureSource : Type 0 where
  pub left : List ℕ
  pub piece : ℕ
  pub course : Course

-- An input in memory, and its calls.
pub record MemorySource : Type 0 where
  pub input : SureSource
  pub calls : Calls

-- what an input in memory tells that never fails
abbrev pub sure_input : SureSource → InputState
sure_input s = record { left = Some s.left; faults = 0; course = Some s.course }

-- what an input in memory tells
abbrev pub memory_input : MemorySource → InputState
memory_input s = record (sure_input s.input) { faults = s.calls.faults }

-- what a read with this room answers that doesn't fail: the end, or the least of the piece, the room and the bytes left
abbrev pub sure_read : SureSource → ℕ → InAnswer
sure_read s room = if length s.left == 0 then End else Took (min s.piece (min room (length s.left)))

-- what a read with this room answers
abbrev pub read_answer : MemorySource → ℕ → InAnswer
read_answer s room = if next_fails s.calls then Failed else sure_read s.input room

-- the input after one more call
abbrev pub source_after_call : SureSource → Bool → SureSource
source_after_call s last = record s { course = course_after s.course last }

-- the bytes left after a read with this answer
abbrev pub left_after : List ℕ → InAnswer → List ℕ
left_after left (Took n) = drop n left
left_after left End = left
left_after left Failed = left

-- the input after a read with this answer
abbrev pub after_read : SureSource → InAnswer → SureSource
after_read s answer = source_after_call (record s { left = left_after s.left answer }) (is_last_read answer)

-- What a read with this room answers of an input that never fails, and what it leaves.
pub record GivesSurely (s : SureSource) (room : ℕ) (answer : InAnswer) (now : SureSource) : Type 0 where
  pub answers : answer ≡ sure_read s room
  pub leaves : now ≡ after_read s answer

-- What a read with this room answers of an input, and what it leaves.
pub record Gives (s : MemorySource) (room : ℕ) (answer : InAnswer) (now : MemorySource) : Type 0 where
  pub answers : answer ≡ read_answer s room
  pub leaves : now.input ≡ after_read s.input answer
  pub counts : now.calls ≡ after_call s.calls

-- An output in memory that never fails: the bytes written, how many of them were flushed, the most that a write takes,
-- and how far its calls have come.
pub record SureSink : Type 0 where
  pub written : List ℕ
  pub flushed : ℕ
  pub piece : ℕ
  pub course : Course

-- An output in memory, and its calls.
pub record MemorySink : Type 0 where
  pub output : SureSink
  pub calls : Calls

-- what an output in memory tells that never fails
abbrev pub sure_output : SureSink → OutputState
sure_output s =
    record { written = Some s.written; flushed = Some (take s.flushed s.written); faults = 0; course = Some s.course }

-- what an output in memory tells
abbrev pub memory_output : MemorySink → OutputState
memory_output s = record (sure_output s.output) { faults = s.calls.faults }

-- a write of so many bytes that doesn't fail takes the lesser of them and the piece, or finds no memory
abbrev pub IsSureWrite : SureSink → ℕ → OutAnswer → Type 0
IsSureWrite s len (TookOut n) = n ≡ min s.piece len
IsSureWrite s len NoMemory = ⊤
IsSureWrite s len FailedOut = ⊥

-- a write of so many bytes may answer this
abbrev pub IsWriteAnswer : MemorySink → ℕ → OutAnswer → Type 0
IsWriteAnswer s len answer = MatchBool (next_fails s.calls) (answer ≡ FailedOut) (IsSureWrite s.output len answer)

-- the output after one more call
abbrev pub sink_after_call : SureSink → Bool → SureSink
sink_after_call s last = record s { course = course_after s.course last }

-- what was written after a write of the bytes with this answer
abbrev pub written_after : List ℕ → List ℕ → OutAnswer → List ℕ
written_after written bytes (TookOut n) = written ++ take n bytes
written_after written bytes NoMemory = written
written_after written bytes FailedOut = written

-- the output after a write of the bytes with this answer
abbrev pub after_write : SureSink → List ℕ → OutAnswer → SureSink
after_write s bytes answer =
    sink_after_call (record s { written = written_after s.written bytes answer }) (is_last_write answer)

-- what a flush answers
abbrev pub flush_answer : MemorySink → FlushAnswer
flush_answer s = if next_fails s.calls then FailedFlush else Done

-- how many bytes are flushed after a flush with this answer
abbrev pub flushed_after : SureSink → FlushAnswer → ℕ
flushed_after s Done = length s.written
flushed_after s FailedFlush = s.flushed

-- the output after a flush with this answer
abbrev pub after_flush : SureSink → FlushAnswer → SureSink
after_flush s answer = sink_after_call (record s { flushed = flushed_after s answer }) (is_last_flush answer)
