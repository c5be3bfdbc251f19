-- The pieces of a page, how each is written, and what is seen of it.
use Rattle.std.specs.Prelude.{ℕ, List, [], ◌∷◌, ◌++◌, codes, chars, flat_map}
use Rattle.std.specs.Fmt.{decimal}
use Rattle.js_page.specs.Characters.{character_seen, in_title, written}
use Rattle.js_page.specs.Classes.{letter_of, opening_text}
use Rattle.js_page.specs.Reading.{Seen, tag}
use Rattle.js_page.specs.declared.class.Class.{Class}

-- A character of the source; the anchor of a line with a number; what opens and what closes the element of a token or a
-- comment; and what opens and what closes that of a fault, of which a title tells.
pub data Piece : Type 0 where
  character : ℕ → Piece
  line : ℕ → Piece
  opening : Class → Piece
  closing : Piece
  fault_opening : List ℕ → Piece
  fault_closing : Piece

-- the anchor of a line
abbrev pub anchor : ℕ → List ℕ
anchor n = codes "<a id=L" ++ decimal n ++ codes "></a>"

-- what opens the element of a fault
abbrev pub fault_text : List ℕ → List ℕ
fault_text title = codes "<u title=\"" ++ flat_map in_title (chars title) ++ codes "\">"

abbrev pub piece_bytes : Piece → List ℕ
piece_bytes (character c) = written c
piece_bytes (line n) = anchor n
piece_bytes (opening class) = opening_text class
piece_bytes closing = codes "</i>"
piece_bytes (fault_opening title) = fault_text title
piece_bytes fault_closing = codes "</u>"

-- pieces as they are written
abbrev pub bytes_of : List Piece → List ℕ
bytes_of pieces = flat_map piece_bytes pieces

abbrev pub piece_seen : Piece → List Seen
piece_seen (character c) = character_seen c
piece_seen (line n) = tag (codes "a id=L" ++ decimal n) ∷ tag (codes "/a") ∷ []
piece_seen (opening class) = tag (codes "i class=" ++ letter_of class ∷ []) ∷ []
piece_seen closing = tag (codes "/i") ∷ []
piece_seen (fault_opening title) = tag (codes "u title=\"" ++ flat_map in_title (chars title) ++ codes "\"") ∷ []
piece_seen fault_closing = tag (codes "/u") ∷ []

-- what is seen of pieces
abbrev pub seen_of : List Piece → List Seen
seen_of pieces = flat_map piece_seen pieces

-- the characters of the source among pieces
abbrev pub characters_of : List Piece → List ℕ
characters_of [] = []
characters_of (character c ∷ ps) = c ∷ characters_of ps
characters_of (line n ∷ ps) = characters_of ps
characters_of (opening class ∷ ps) = characters_of ps
characters_of (closing ∷ ps) = characters_of ps
characters_of (fault_opening title ∷ ps) = characters_of ps
characters_of (fault_closing ∷ ps) = characters_of ps
