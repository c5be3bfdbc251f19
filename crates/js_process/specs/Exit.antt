-- What a program tells as it ends.
use Rattle.std.specs.Prelude.{◌≡◌, ◌⊎◌, ℕ, List, ◌++◌, codes, Option, Some, None}
use Rattle.js_process.specs.Outside.{OutputState, WritesAll, WritesPrefix, Closes}

-- a beginning of the text was written, and no call came behind the one that failed
abbrev pub BreaksOff : List ℕ → OutputState → OutputState → Type 0
BreaksOff text old new = WritesPrefix old new text × Closes old.course new.course

-- a line, with its line end, where there is one and no write fails; else a beginning of it
abbrev pub Tells : Option (List ℕ) → OutputState → OutputState → Type 0
Tells None old new = new ≡ old
Tells (Some line) old new = WritesAll old new (line ++ codes "\n") ⊎ BreaksOff (line ++ codes "\n") old new
