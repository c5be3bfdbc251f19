-- Reads of an input: which one can be read to its end, and how many bytes each read asks for.
use Rattle.std.specs.Prelude.{◌≡◌, ℕ, ◌+◌, ◌-◌, ◌≤◌, List, length, min, Option, Some}
use Rattle.std.specs.Str.{IsUtf8}
use Rattle.js_process.specs.declared.outside.InAnswer.{InAnswer}
use Rattle.js_process.specs.declared.outside.InAnswer.TheVariants.{Took, End, Failed}

-- the most bytes that an input may have
abbrev pub most_bytes : ℕ
most_bytes = 67108864

-- An input can be read: the bytes that are left of it are known, few enough, and UTF-8.
pub record CanBeRead (left : Option (List ℕ)) : Type 0 where
  pub bytes : List ℕ
  pub left_is : left ≡ Some bytes
  pub few : length bytes ≤ most_bytes
  pub utf8 : IsUtf8 bytes

-- how many bytes a read gave
abbrev pub given_by : InAnswer → ℕ
given_by (Took n) = n
given_by End = 0
given_by Failed = 0

-- how many bytes the next read asks for, where so many were given: a buffer, or what is left of one more than `most`
abbrev pub room_after : ℕ → ℕ → ℕ
room_after most given = min 4096 (most + 1 - given)

-- Reads of an input, one after another, that gave so many bytes: each asked for as many as the next read does. Where
-- `gives` tells what one read with so much room answers and leaves, the first leads from the input at its start.
pub data AskForRoom {S : Type 0} (gives : S → ℕ → InAnswer → S → Type 0) (most : ℕ) (start : S) : ℕ → S → Type 0 where
  none : AskForRoom gives most start 0 start
  more : (given : ℕ) (last now : S) (answer : InAnswer) → AskForRoom gives most start given last
      → gives last (room_after most given) answer now → AskForRoom gives most start (given + given_by answer) now
