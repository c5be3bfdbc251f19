-- What may stand between two tokens: white space, line terminators and comments (ECMA-262 12.2 to 12.4, B.1.1).
use Rattle.std.specs.Prelude.{◌≡◌, ℕ, Bool, true, false, List, [], ◌∷◌, ◌++◌, ◌==◌, ◌&&◌, ◌||◌, not, drop, length}
use Rattle.std.specs.Prelude.{codes, Option, Some, None, if◌then◌else◌}
use Rattle.std.specs.List.{list_any}
use Rattle.std.specs.Option.{option_map}
use Rattle.js_text.specs.Characters.{is_white_space, is_line_terminator, before_first, from_first}
use Rattle.js_text.specs.SourceType.{is_module}
use Rattle.js_text.specs.declared.source_type.SourceType.{SourceType}

-- the text begins with these characters
abbrev pub is_prefix : List ℕ → List ℕ → Bool
is_prefix [] cs = true
is_prefix (x ∷ xs) [] = false
is_prefix (x ∷ xs) (c ∷ cs) = (c == x) && is_prefix xs cs

-- a text, cut in two
pub record Cut : Type 0 where
  pub front : List ℕ
  pub rest : List ℕ

-- the cut of a text with one more character in front
abbrev pub cut-cons : ℕ → Cut → Cut
cut-cons c cut = record { front = c ∷ cut.front; rest = cut.rest }

-- the text, cut behind the first place where the mark stands, if it stands anywhere
abbrev pub cut_behind : List ℕ → List ℕ → Option Cut
cut_behind mark [] = None
cut_behind mark (c ∷ cs) =
    if is_prefix mark (c ∷ cs) then Some (record { front = mark; rest = drop (length mark) (c ∷ cs) })
    else option_map (cut-cons c) (cut_behind mark cs)

-- The kinds of pieces. A reported comment is one that a module may not have; it stands in whole gaps alone.
pub data PieceKind : Type 0 where
  white_space : PieceKind
  line_terminator : PieceKind
  single_line_comment : PieceKind
  multi_line_comment : PieceKind
  html_open_comment : PieceKind
  html_close_comment : PieceKind
  reported_comment : PieceKind

-- One piece of a gap: what it is, its characters, whether a line has ended by its end, and the text behind it.
pub record Piece : Type 0 where
  pub kind : PieceKind
  pub text : List ℕ
  pub line_has_ended : Bool
  pub rest : List ℕ

-- a piece of one character
abbrev pub one_character : PieceKind → Bool → ℕ → List ℕ → Piece
one_character kind line_has_ended c cs =
    record { kind = kind; text = c ∷ []; line_has_ended = line_has_ended; rest = cs }

-- a comment up to the next line terminator, or to the end of the text
abbrev pub line_comment : PieceKind → Bool → List ℕ → Piece
line_comment kind line_has_ended text = record {
  kind = kind;
  text = before_first is_line_terminator text;
  line_has_ended = line_has_ended;
  rest = from_first is_line_terminator text;
}

-- a comment from `/*` up to and with the first `*/` behind it; without one it is no piece
abbrev pub block_comment : Bool → List ℕ → Option Piece
block_comment line_has_ended text =
    option_map
    (λ cut. record {
      kind = multi_line_comment;
      text = codes "/*" ++ cut.front;
      line_has_ended = line_has_ended || list_any is_line_terminator cut.front;
      rest = cut.rest;
    })
    (cut_behind (codes "*/") (drop 2 text))

-- HTML-like comments stand in any source but a module (B.1.1)
abbrev pub has_html_comments : SourceType → Bool
has_html_comments t = not (is_module t)

-- The piece that the text begins with, where the flag tells whether a line has ended before it.
abbrev pub piece : SourceType → Bool → List ℕ → Option Piece
piece t line_has_ended [] = None
piece t line_has_ended (c ∷ cs) =
    if is_white_space c then Some (one_character white_space line_has_ended c cs)
    else if is_line_terminator c then Some (one_character line_terminator true c cs)
    else if is_prefix (codes "//") (c ∷ cs) then Some (line_comment single_line_comment line_has_ended (c ∷ cs))
    else if is_prefix (codes "/*") (c ∷ cs) then block_comment line_has_ended (c ∷ cs)
    else if is_prefix (codes "<!--") (c ∷ cs) && has_html_comments t
    then Some (line_comment html_open_comment line_has_ended (c ∷ cs))
    else if is_prefix (codes "-->") (c ∷ cs) && (has_html_comments t && line_has_ended)
    then Some (line_comment html_close_comment line_has_ended (c ∷ cs))
    else None

-- a comment that a module may not have, and that is reported and skipped: `<!--` where a line has ended
abbrev pub is_reported : SourceType → Bool → List ℕ → Bool
is_reported t line_has_ended text = is_prefix (codes "<!--") text && (is_module t && line_has_ended)

-- The piece of a whole gap that the text begins with: a reported comment, or a piece of any gap.
abbrev pub whole_gap_piece : SourceType → Bool → List ℕ → Option Piece
whole_gap_piece t line_has_ended text =
    if is_reported t line_has_ended text then Some (line_comment reported_comment line_has_ended text)
    else piece t line_has_ended text

-- The text begins with these pieces, each of them what the step finds where the one before it ends, and then rest is
-- left.
-- Whether a line has ended is the first flag before them, and the second behind them.
abbrev pub Pieces : (Bool → List ℕ → Option Piece) → Bool → List ℕ → List Piece → Bool → List ℕ → Type 0
Pieces step line_had_ended text [] line_has_ended rest = (line_has_ended ≡ line_had_ended) × (rest ≡ text)
Pieces step line_had_ended text (x ∷ xs) line_has_ended rest =
    (step line_had_ended text ≡ Some x) × Pieces step x.line_has_ended x.rest xs line_has_ended rest

-- These are all pieces that the text begins with: none follows them.
pub record AllPieces (step : Bool → List ℕ → Option Piece) (line_had_ended : Bool) (text : List ℕ) (pieces : List Piece)
    (line_has_ended : Bool) (rest : List ℕ) : Type 0 where
  pub pieces_are : Pieces step line_had_ended text pieces line_has_ended rest
  pub longest : step line_has_ended rest ≡ None

-- The text begins with a gap of these pieces.
abbrev pub Gap : SourceType → Bool → List ℕ → List Piece → Bool → List ℕ → Type 0
Gap t = Pieces (piece t)

-- The longest gap that the text begins with: no piece follows it.
pub record LongestGap (t : SourceType) (line_had_ended : Bool) (text : List ℕ) (line_has_ended : Bool) (rest : List ℕ)
    : Type 0 where
  pub pieces : List Piece
  pub all : AllPieces (piece t) line_had_ended text pieces line_has_ended rest

-- The whole gap that the text begins with: its pieces are those of longest gaps, with a reported comment between each
-- two.
abbrev pub WholeGap : SourceType → Bool → List ℕ → List Piece → Bool → List ℕ → Type 0
WholeGap t = AllPieces (whole_gap_piece t)
