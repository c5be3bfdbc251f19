-- The statuses of the program: their numbers, their lines, and the order in which a run tests for them.
use Rattle.std.specs.Prelude.{◌≡◌, ◌≢◌, ℕ, ◌==◌, ◌⊎◌, List, [], ◌∷◌, ◌++◌, codes, Option, option_map, find}
use Rattle.std.specs.List.{after_first}
use Rattle.std.specs.declared.io.ErrorKind.{ErrorKind}
use Rattle.std.specs.declared.io.ErrorKind.TheVariants.{OutOfMemory as NoMemory}
use Rattle.js_process.specs.Outside.{Rises}

-- what the program can come to
pub data Status : Type 0 where
  Done : Status
  OutOfMemory : Status
  Usage : Status
  ReadFailed : Status
  WriteFailed : Status
  TooLong : Status
  NotUtf8 : Status
  NoMark : Status
  Diagnosed : Status
  NoArguments : Status

-- the exit status that the system is given
abbrev pub number : Status → ℕ
number Done = 0
number OutOfMemory = 1
number Usage = 2
number ReadFailed = 3
number WriteFailed = 4
number TooLong = 5
number NotUtf8 = 6
number NoMark = 7
number Diagnosed = 9
number NoArguments = 10

-- the status of a program that was not given its words, by the kind of the error
abbrev pub status_without_words : ErrorKind → Status
status_without_words NoMemory = OutOfMemory
status_without_words _ = NoArguments

-- why a program with this usage stops with a status; it has no reason where it is done
abbrev pub reason : List ℕ → Status → List ℕ
reason usage Done = []
reason usage OutOfMemory = codes "out of memory"
reason usage Usage = usage
reason usage ReadFailed = codes "cannot read input"
reason usage WriteFailed = codes "cannot write output"
reason usage TooLong = codes "input is longer than 67108864 bytes"
reason usage NotUtf8 = codes "input is not UTF-8"
reason usage NoMark = codes "rewind or commit without a mark"
reason usage Diagnosed = codes "source has diagnostics"
reason usage NoArguments = codes "cannot read arguments"

-- each status but Done
abbrev pub failures : List Status
failures =
    OutOfMemory ∷ Usage ∷ ReadFailed ∷ WriteFailed ∷ TooLong ∷ NotUtf8 ∷ NoMark ∷ Diagnosed ∷ NoArguments ∷ []

-- why a program with this usage stops with an exit status
abbrev pub reason_for : List ℕ → ℕ → Option (List ℕ)
reason_for usage n = option_map (reason usage) (find (λ s. number s == n) failures)

-- the line that a program prints, without its line end
abbrev pub line_of : List ℕ → List ℕ → List ℕ
line_of program why = program ++ codes ": " ++ why

-- the line for an exit status of a program with this name and this usage
abbrev pub line_for : List ℕ → List ℕ → ℕ → Option (List ℕ)
line_for program usage n = option_map (line_of program) (reason_for usage n)

-- the program `js_lex`
abbrev pub js_lex : List ℕ
js_lex = codes "js_lex"

abbrev pub js_lex_usage : List ℕ
js_lex_usage =
    codes "usage: js_lex module|script|unambiguous tokens|no-tokens all|auto|COMMAND[*N].. or js_lex gen N"
    ++ codes " or js_lex strip module|script|unambiguous all|COMMAND[*N].."
    ++ codes " or js_lex squeeze module|script|unambiguous all|COMMAND[*N].."

-- The statuses in the order in which a run tests for them. OutOfMemory is not among them: it may come at any time. No
-- run tests for both Diagnosed and NoMark.
abbrev pub order : List Status
order = Usage ∷ ReadFailed ∷ TooLong ∷ NotUtf8 ∷ Diagnosed ∷ NoMark ∷ WriteFailed ∷ Done ∷ []

-- the statuses that are tested after one
abbrev pub later_than : Status → List Status
later_than status = after_first (λ s. number s == number status) order

-- an exit status is that of one of these
abbrev pub IsOneOf : List Status → ℕ → Type 0
IsOneOf [] n = ⊥
IsOneOf (status ∷ statuses) n = (n ≡ number status) ⊎ IsOneOf statuses n

-- a run with this exit status has passed the test of a status: its own is tested later
abbrev pub HasPassed : Status → ℕ → Type 0
HasPassed status n = IsOneOf (later_than status) n

-- A test that a run makes: what is known where its status comes, and what is known where a later one comes.
pub record Tests (status : Status) (n : ℕ) (Fails Passes : Type 0) : Type 0 where
  pub fails : n ≡ number status → Fails
  pub passes : HasPassed status n → Passes

-- a count of faults rises exactly in a run with this status
pub record CountsFault (status : Status) (n before now : ℕ) : Type 0 where
  pub rises : n ≡ number status → Rises before now
  pub stays : n ≢ number status → now ≡ before
