-- The lines of a text, and places of it by line and column.
use Rattle.std.specs.Prelude.{◌≡◌, ℕ, ◌+◌, ◌<◌, ◌^◌, Bool, List, [], ◌∷◌, length, ◌==◌, ◌&&◌, ◌||◌, not, suc}
use Rattle.std.specs.Prelude.{if◌then◌else◌, ◌++◌, Option, option_map, slice_get}
use Rattle.std.specs.Char.{len_utf8}
use Rattle.std.specs.Str.{chars, IsUtf8}
use Rattle.js_text.specs.Ascii.{line_feed, carriage_return}
use Rattle.js_text.specs.Characters.{is_line_terminator, begins, from_place}
use Rattle.js_source.specs.Source.{At, rest}
use Rattle.js_lines.specs.Columns.{length_in, front_within, behind_front}
use Rattle.js_lines.specs.declared.columns.ColumnUnit.{ColumnUnit}
use Rattle.js_lines.specs.declared.columns.ColumnUnit.TheVariants.{Bytes}
use Rattle.js_lines.specs.declared.columns.Position.{Position}
use Rattle.js_lines.specs.declared.line_ends.LineEnds.{LineEnds}
use Rattle.js_lines.specs.declared.line_ends.LineEnds.TheVariants.{EcmaScript, LineFeeds, LanguageServer}

-- the characters that end a line, each alone
abbrev pub is_line_end : LineEnds → ℕ → Bool
is_line_end EcmaScript c = is_line_terminator c
is_line_end LineFeeds c = c == line_feed
is_line_end LanguageServer c = (c == line_feed) || (c == carriage_return)

-- the character c is a CR, and a LF follows it: both are one line end
abbrev pub opens_pair : ℕ → List ℕ → Bool
opens_pair c cs = (c == carriage_return) && begins (λ d. d == line_feed) cs

-- a line ends behind the character c, where cs follow it; behind a CR LF, and not within it
abbrev pub ends_line : LineEnds → ℕ → List ℕ → Bool
ends_line ends c cs = is_line_end ends c && not (opens_pair c cs)

-- a line end begins with the character c, where cs follow it
abbrev pub begins_line_end : LineEnds → ℕ → List ℕ → Bool
begins_line_end ends c cs = is_line_end ends c || opens_pair c cs

-- how many lines end in the characters xs, where ys follow them
abbrev pub lines_ended : LineEnds → List ℕ → List ℕ → ℕ
lines_ended ends [] ys = 0
lines_ended ends (c ∷ xs) ys =
    if ends_line ends c (xs ++ ys) then suc (lines_ended ends xs ys) else lines_ended ends xs ys

-- the characters of xs behind the last line end in them, where ys follow
abbrev pub last_line : LineEnds → List ℕ → List ℕ → List ℕ
last_line ends [] ys = []
last_line ends (c ∷ xs) ys = if lines_ended ends (c ∷ xs) ys == 0 then c ∷ xs else last_line ends xs ys

-- the characters up to the next line end, without it
abbrev pub line_content : LineEnds → List ℕ → List ℕ
line_content ends [] = []
line_content ends (c ∷ cs) = if begins_line_end ends c cs then [] else c ∷ line_content ends cs

-- the places behind the line ends in characters that begin at a place
abbrev pub starts_behind : LineEnds → ℕ → List ℕ → List ℕ
starts_behind ends at [] = []
starts_behind ends at (c ∷ cs) =
    if ends_line ends c cs then (at + len_utf8 c) ∷ starts_behind ends (at + len_utf8 c) cs
    else starts_behind ends (at + len_utf8 c) cs

-- the places where lines begin: the start of the text, and behind each line end
abbrev pub line_starts : LineEnds → List ℕ → List ℕ
line_starts ends text = 0 ∷ starts_behind ends 0 (chars text)

-- the same of the characters from a place on
abbrev pub starts_from : LineEnds → At → List ℕ
starts_from ends s = starts_behind ends s.place (rest s)

-- The characters before an offset in bytes, and those from it on. Within a character it is that character's start,
-- behind the text its end.
abbrev pub front_at : List ℕ → ℕ → List ℕ
front_at text offset = front_within Bytes offset (chars text)

abbrev pub back_at : List ℕ → ℕ → List ℕ
back_at text offset = behind_front Bytes offset (chars text)

-- The line and the column of an offset, both from 0: how many lines end before it, and how long the characters between
-- the last of these line ends and it are.
abbrev pub position_of : LineEnds → ColumnUnit → List ℕ → ℕ → Position
position_of ends unit text offset = record {
  line = lines_ended ends (front_at text offset) (back_at text offset);
  column = length_in unit (last_line ends (front_at text offset) (back_at text offset));
}

-- how contracts see a table of lines: the text, and what ends a line of it
pub record Lines : Type 0 where
  pub text : List ℕ
  pub ends : LineEnds

-- the characters of the line that begins at an offset, without its line end
abbrev pub line_from : Lines → ℕ → List ℕ
line_from lines start = line_content lines.ends (from_place lines.text start)

-- the characters of the line with a number, from 0, without its line end
abbrev pub line_of : Lines → ℕ → Option (List ℕ)
line_of lines line = option_map (line_from lines) (slice_get (line_starts lines.ends lines.text) line)

-- the offset behind the longest front of the line that is no longer than the column
abbrev pub offset_of : Lines → ColumnUnit → Position → Option ℕ
offset_of lines unit position =
    option_map (λ start. start + length_in Bytes (front_within unit position.column (line_from lines start)))
    (slice_get (line_starts lines.ends lines.text) position.line)

-- how contracts see a cursor over the lines of a text: the lines, and the unit of its columns
pub record CursorOf : Type 0 where
  pub lines : Lines
  pub unit : ColumnUnit

-- These are the places where the lines of a text begin, which is UTF-8 of less than 2 ^ 32 bytes.
pub record AreLineStarts (ends : LineEnds) (text starts : List ℕ) : Type 0 where
  pub utf8 : IsUtf8 text
  pub short : length text < 2 ^ 32
  pub starts_are : starts ≡ line_starts ends text
