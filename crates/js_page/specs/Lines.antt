-- Characters with the anchors of the lines that begin in them.
use Rattle.std.specs.Prelude.{ℕ, ◌+◌, Bool, false, not, ◌&&◌, ◌||◌, ◌==◌, List, [], ◌∷◌, ◌++◌, bytes_eq, if◌then◌else◌}
use Rattle.js_page.specs.Characters.{written}
use Rattle.js_page.specs.Pieces.{Piece, character, line}
use Rattle.js_page.specs.declared.lines.Lines.{Lines}

-- the lines of which none has ended
abbrev pub first_line : Lines
first_line = record { number = 1; behind_return = false }

-- a line has ended before the character c: behind a CR, of which no LF follows
abbrev pub ends_before : Lines → ℕ → Bool
ends_before lines c = not (c == 10) && lines.behind_return

-- a line ends behind the character c, whatever follows
abbrev pub ends_behind : ℕ → Bool
ends_behind c = (c == 10) || (c == 0x2028) || (c == 0x2029)

-- the character c is plain: it is written as its number, and no line ends at it
unfoldable pub is_plain : ℕ → Bool
is_plain c = bytes_eq (written c) (c ∷ []) && (not (ends_behind c) && not (c == 13))

-- the number of the line on which the character c stands
abbrev pub begun : Lines → ℕ → ℕ
begun lines c = if ends_before lines c then lines.number + 1 else lines.number

-- the number of the line behind the character c of one
abbrev pub ended : ℕ → ℕ → ℕ
ended number c = if ends_behind c then number + 1 else number

-- what stands before and behind the character c
abbrev pub pieces_before : Lines → ℕ → List Piece
pieces_before lines c = if ends_before lines c then line (lines.number + 1) ∷ [] else []

abbrev pub line_behind : ℕ → ℕ → List Piece
line_behind number c = if ends_behind c then line (number + 1) ∷ [] else []

-- the lines behind the character c
abbrev pub next_lines : Lines → ℕ → Lines
next_lines lines c = record { number = ended (begun lines c) c; behind_return = c == 13 }

-- a character with the anchors of lines that begin before it and behind it
abbrev pub pieces_at : Lines → ℕ → List Piece
pieces_at lines c = pieces_before lines c ++ character c ∷ line_behind (begun lines c) c

-- the lines behind characters
abbrev pub lines_behind : Lines → List ℕ → Lines
lines_behind lines [] = lines
lines_behind lines (c ∷ cs) = lines_behind (next_lines lines c) cs

-- characters with the anchors of lines that begin in them
abbrev pub pieces_in : Lines → List ℕ → List Piece
pieces_in lines [] = []
pieces_in lines (c ∷ cs) = pieces_at lines c ++ pieces_in (next_lines lines c) cs
