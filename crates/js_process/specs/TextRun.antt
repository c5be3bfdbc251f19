-- What a run comes to of a program that makes one text of its input.
use Rattle.std.specs.Prelude.{◌≡◌, ◌≢◌, ℕ, ◌+◌, ◌≤◌, ◌⊎◌, ◌↔◌, List, [], ◌∷◌, length, Option, None, IfSome, IsSome}
use Rattle.std.specs.Io.KnownBytes.{Consumes, Keeps, IsAtEnd}
use Rattle.std.specs.Str.{IsUtf8}
use Rattle.js_process.specs.Outside.{InputState, OutputState, Rises, WritesAll, WritesPrefix, InTime}
use Rattle.js_process.specs.Reads.{CanBeRead, most_bytes}
use Rattle.js_process.specs.Status.{CountsFault, number, IsOneOf, Tests}
use Rattle.js_process.specs.Status.Status.{Done, OutOfMemory, Usage, ReadFailed, WriteFailed, TooLong, NotUtf8}

-- What was written of a text that may be made: a beginning of one, or nothing; and all of one, flushed, where the run
-- is done.
pub record WritesText (MayMake : List ℕ → Type 0) (old new : OutputState) (n : ℕ) : Type 0 where
  pub partly : Keeps old.written new.written ⊎ ((text : List ℕ) × MayMake text × WritesPrefix old new text)
  pub whole : n ≡ number Done → (text : List ℕ) × MayMake text × WritesAll old new text

-- What a run comes to that has read its input to its end, by the bytes that it read and the texts that may be made of
-- them.
pub record AnswersText (bytes : List ℕ) (MayMake : List ℕ → Type 0) (old new : OutputState) (n : ℕ) : Type 0 where
  pub known : IsOneOf (OutOfMemory ∷ NotUtf8 ∷ WriteFailed ∷ Done ∷ []) n
  pub utf8 : Tests NotUtf8 n (¬ (IsUtf8 bytes)) (IsUtf8 bytes)
  pub quiet : n ≡ number NotUtf8 → new ≡ old
  pub text : WritesText MayMake old new n
  pub faults : CountsFault WriteFailed n old.faults new.faults
  -- no call came after a write or a flush that failed
  pub in_time : InTime old.course new.course

-- A run that gave up before its input was read to its end, and has written nothing.
pub record GivesUpText (old new : OutputState) (n : ℕ) : Type 0 where
  pub known : IsOneOf (OutOfMemory ∷ ReadFailed ∷ TooLong ∷ []) n
  pub quiet : new ≡ old

-- What a run comes to whose words are valid, by the texts that may be made of a source, and by what its input and its
-- output tell before and after it.
pub record RunsText (MayMake : List ℕ → List ℕ → Type 0) (input input_new : InputState)
    (output output_new : OutputState) (n : ℕ) : Type 0 where
  -- the bytes that it read: one too many exactly where the input is too long
  pub bytes : List ℕ
  pub read : Consumes input.left input_new.left bytes
  pub bounded : length bytes ≤ most_bytes + 1
  pub long : n ≢ number OutOfMemory → (n ≡ number TooLong) ↔ (length bytes ≡ most_bytes + 1)
  pub faults : CountsFault ReadFailed n input.faults input_new.faults
  -- no read came after one that found the end, nor after one that failed
  pub in_time : InTime input.course input_new.course
  -- it gave up while it read, or has read all bytes and answers
  pub ends : GivesUpText output output_new n
      ⊎ (IsAtEnd input_new.left × AnswersText bytes (MayMake bytes) output output_new n)

-- What a run of a program comes to, by what its words mean and the texts that this may make of a source, and by what
-- its input and its output tell before and after it.
pub record RunsMaker {W : Type 0} (MayMake : W → List ℕ → List ℕ → Type 0) (words : Option W)
    (input input_new : InputState) (output output_new : OutputState) (n : ℕ) : Type 0 where
  pub known : IsOneOf (OutOfMemory ∷ Usage ∷ ReadFailed ∷ TooLong ∷ NotUtf8 ∷ WriteFailed ∷ Done ∷ []) n
  -- the words are read first: where they are not valid, nothing else is done
  pub usage : Tests Usage n (words ≡ None) (IsSome words)
  pub unread : words ≡ None → (input_new ≡ input) × (output_new ≡ output)
  pub runs : IfSome words (λ w. RunsText (MayMake w) input input_new output output_new n)
  -- no other status comes of words and of bytes that can be run, where neither end fails
  pub complete : IsSome words → CanBeRead input.left → (¬ (Rises input.faults input_new.faults))
      → (¬ (Rises output.faults output_new.faults)) → IsOneOf (Done ∷ OutOfMemory ∷ []) n
