-- The lines of a text that is edited, and what an edit is.
use Rattle.std.specs.Prelude.{◌≡◌, ℕ, ◌+◌, ◌<◌, ◌^◌, List, ◌++◌, length}
use Rattle.std.specs.Str.{chars}
use Rattle.js_lines.specs.Columns.{length_in}
use Rattle.js_lines.specs.Lines.{AreLineStarts, Lines}
use Rattle.js_lines.specs.declared.columns.ColumnUnit.TheVariants.{Bytes}
use Rattle.js_lines.specs.declared.line_ends.LineEnds.{LineEnds}

-- how contracts see the lines of a text that is edited: what ends a line, the bytes of the text, and where lines begin
pub record KeptLines : Type 0 where
  pub ends : LineEnds
  pub bytes : ℕ
  pub starts : List ℕ

-- They are the lines of the text.
pub record AreLinesOf (lines : KeptLines) (text : List ℕ) : Type 0 where
  pub bytes_are : lines.bytes ≡ length text
  pub are : AreLineStarts lines.ends text lines.starts

-- The text with what ends a line of it, as js_lines sees both.
abbrev pub lines_in : KeptLines → List ℕ → Lines
lines_in lines text = record { text = text; ends = lines.ends }

-- The characters between two places of the text old are dropped, and others added there: this makes the text new. The
-- places are in bytes, and so is how much is added.
pub record Replaces (old new : List ℕ) (start end inserted : ℕ) : Type 0 where
  pub front : List ℕ
  pub dropped : List ℕ
  pub added : List ℕ
  pub behind : List ℕ
  pub old_is : chars old ≡ front ++ (dropped ++ behind)
  pub new_is : chars new ≡ front ++ (added ++ behind)
  pub start_is : start ≡ length_in Bytes front
  pub end_is : end ≡ start + length_in Bytes dropped
  pub inserted_is : inserted ≡ length_in Bytes added

-- The lines are those of a text of which such an edit makes this one.
pub record IsEdited (lines : KeptLines) (text : List ℕ) (start end inserted : ℕ) : Type 0 where
  pub old : List ℕ
  pub lines_are : AreLinesOf lines old
  pub short : length text < 2 ^ 32
  pub replaces : Replaces old text start end inserted
