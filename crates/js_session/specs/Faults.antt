-- Why a source or a list of commands gives no report.
use Rattle.std.specs.Prelude.{◌≡◌, ℕ, ◌<◌, ◌≤◌, ◌^◌, true, List, length, take, slice_get, count_by, Some}
use Rattle.std.specs.Str.{IsUtf8}
use Rattle.std.specs.Str.Lossy.{utf8_valid_len}
use Rattle.js_session.specs.declared.command.Command.{Command}
use Rattle.js_session.specs.declared.fault.LexFault.{LexFault}
use Rattle.js_session.specs.declared.fault.LexFault.TheVariants.{Overlong, NotUtf8, NoMark, Memory}
use Rattle.js_session.specs.Effects.{opens_one, closes}

-- The command at the index closes a mark, and the commands before it have closed as many marks as they have opened.
pub record ClosesNoMark (commands : List Command) (index : ℕ) : Type 0 where
  pub command : Command
  pub here : slice_get commands index ≡ Some command
  pub is_close : closes command ≡ true
  pub none_open : count_by opens_one (take index commands) ≡ count_by closes (take index commands)

-- the command at the index is the first such
pub record FirstWithoutMark (commands : List Command) (index : ℕ) : Type 0 where
  pub here : ClosesNoMark commands index
  pub earlier : (i : ℕ) → i < index → ¬ (ClosesNoMark commands i)

-- each command that closes a mark has one to close
abbrev pub HasMarks : List Command → Type 0
HasMarks commands = (i : ℕ) → ¬ (ClosesNoMark commands i)

-- the source is short and UTF-8
pub record IsReadable (source : List ℕ) : Type 0 where
  pub short : length source < 2 ^ 32
  pub utf8 : IsUtf8 source

-- The cause of a fault of the source: that of one is none of those tested before it. A lack of memory has none here.
abbrev pub SourceCause : List ℕ → LexFault → Type 0
SourceCause source Overlong = 2 ^ 32 ≤ length source
SourceCause source (NotUtf8 at) = (length source < 2 ^ 32) × (¬ (IsUtf8 source)) × (at ≡ utf8_valid_len source)
SourceCause source (NoMark index) = ⊥
SourceCause source Memory = ⊥

-- The cause of a fault: one of the source, or, where the source has none, one of the commands.
abbrev pub Cause : List ℕ → List Command → LexFault → Type 0
Cause source commands Overlong = SourceCause source Overlong
Cause source commands (NotUtf8 at) = SourceCause source (NotUtf8 at)
Cause source commands (NoMark index) = IsReadable source × FirstWithoutMark commands index
Cause source commands Memory = SourceCause source Memory
