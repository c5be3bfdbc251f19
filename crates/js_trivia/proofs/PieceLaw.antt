-- The law of one gap, by the pieces of the gap.
use Rattle.std.proofs.Common.{◌≡◌, ℕ, ◌+◌, ◌≤◌, Bool, true, false, List, [], ◌∷◌, ◌++◌, arith}
use Rattle.js_kind.specs.TokenParts.{TokenParts}
use Rattle.js_grammar.specs.Gap.{PieceKind, white_space, line_terminator, single_line_comment, multi_line_comment}
use Rattle.js_grammar.specs.Gap.{html_open_comment, html_close_comment, reported_comment, Piece}
use Rattle.js_text.specs.Characters.{begins, is_irregular_whitespace}
use Rattle.std.specs.Prelude.{not, ◌&&◌}
use Rattle.js_grammar.specs.GapItems.{Item, irregular, line_end, comment}
use Rattle.js_trivia.specs.Trivia.{Trivia, Ascends, BeforeGap, HeldBefore, calls, handle_token, after_gap}
use Rattle.js_grammar.specs.PieceItems.{piece_length, piece_span, is_line_comment, is_separator, listed_if}
use Rattle.js_grammar.specs.PieceItems.{items_of_kind, items_from, items_of, gap_of}
use Rattle.js_trivia.specs.Pieces.{HaveBytes, end_of, MayRead}
use Rattle.js_trivia.proofs.GapLaw.{calls_for_gap, held_after_gap}

-- what starts at a place or later starts at any lower place or later
from_lower : (low lower high : ℕ) (xs : List Item) → Ascends low xs high → lower ≤ low → Ascends lower xs high
from_lower low lower high [] h le = let l : low ≤ high = h in omega arith
from_lower low lower high (irregular span ∷ xs) h le = let l : low ≤ span.start = h.0 in (omega arith, h.1)
from_lower low lower high (line_end ∷ xs) h le = from_lower low lower high xs h le
from_lower low lower high (comment found ∷ xs) h le = let l : low ≤ found.span.start = h.0 in (omega arith, h.1)

module _ (place high : ℕ) (x : Piece) (has : 1 ≤ piece_length x) where
  listed_ascends : (listed : Bool) (xs : List Item) → Ascends (place + piece_length x) xs high
      → Ascends place (listed_if listed (piece_span place x) ++ xs) high
  listed_ascends true xs h = (omega arith, from_lower (place + piece_length x) (place + 1) high xs h (omega arith))
  listed_ascends false xs h = from_lower (place + piece_length x) place high xs h (omega arith)

  line_end_ascends : (listed : Bool) (xs : List Item) → Ascends (place + piece_length x) xs high
      → Ascends place ((listed_if listed (piece_span place x) ++ line_end ∷ []) ++ xs) high
  line_end_ascends true xs h = (omega arith, from_lower (place + piece_length x) (place + 1) high xs h (omega arith))
  line_end_ascends false xs h = from_lower (place + piece_length x) place high xs h (omega arith)

  piece_ascends : (kind : PieceKind) (ends : Bool) (xs : List Item) → Ascends (place + piece_length x) xs high
      → Ascends place (items_of_kind kind place ends x ++ xs) high
  piece_ascends white_space ends xs h = listed_ascends (begins is_irregular_whitespace x.text) xs h
  piece_ascends line_terminator ends xs h = line_end_ascends (begins is_separator x.text && not ends) xs h
  piece_ascends single_line_comment ends xs h =
      (omega arith, from_lower (place + piece_length x) (place + 1) high xs h (omega arith))
  piece_ascends multi_line_comment ends xs h =
      (omega arith, from_lower (place + piece_length x) (place + 1) high xs h (omega arith))
  piece_ascends html_open_comment ends xs h =
      (omega arith, from_lower (place + piece_length x) (place + 1) high xs h (omega arith))
  piece_ascends html_close_comment ends xs h =
      (omega arith, from_lower (place + piece_length x) (place + 1) high xs h (omega arith))
  piece_ascends reported_comment ends xs h =
      (omega arith, from_lower (place + piece_length x) (place + 1) high xs h (omega arith))

items_ascend : (place : ℕ) (ends : Bool) (pieces : List Piece) → HaveBytes pieces
    → Ascends place (items_from place ends pieces) (end_of place pieces)
items_ascend place ends [] h = omega arith
items_ascend place ends (x ∷ xs) h =
    piece_ascends place (end_of (place + piece_length x) xs) x h.0 x.kind ends
    (items_from (place + piece_length x) (is_line_comment x.kind) xs)
    (items_ascend (place + piece_length x) (is_line_comment x.kind) xs h.1)

module _ (is_first : Bool) (previous token : TokenParts) (place : ℕ) (pieces : List Piece) (s : Trivia)
    (may : MayRead is_first previous place pieces s) where
  before : BeforeGap place (end_of place pieces) (gap_of is_first previous place pieces token) s
  before = record {
    attachment = may.attachment;
    held = may.held;
    ascends = items_ascend place false pieces may.have_bytes;
  }

  pub calls_for_pieces : handle_token token (calls (items_of place pieces) s)
      ≡ after_gap (gap_of is_first previous place pieces token) s
  calls_for_pieces = calls_for_gap place (end_of place pieces) (gap_of is_first previous place pieces token) s before

  pub held_after_pieces : HeldBefore (end_of place pieces) (after_gap (gap_of is_first previous place pieces token) s)
  held_after_pieces = held_after_gap place (end_of place pieces) (gap_of is_first previous place pieces token) s before
