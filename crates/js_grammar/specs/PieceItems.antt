-- The items of a gap by its pieces.
use Rattle.std.specs.Prelude.{ℕ, ◌+◌, ◌-◌, ◌==◌, ◌||◌, ◌&&◌, Bool, true, false, not, List, [], ◌∷◌, ◌++◌, length, take}
use Rattle.std.specs.Prelude.{drop, if◌then◌else◌}
use Rattle.std.specs.List.{list_any}
use Rattle.std.specs.Str.{encode_utf8_all}
use Rattle.js_text.specs.Characters.{begins, is_irregular_whitespace, is_line_terminator}
use Rattle.js_text.specs.Comment.{is_line_kind, opening_length, closing_length}
use Rattle.js_text.specs.declared.span.Span.{Span}
use Rattle.js_text.specs.declared.comment.CommentKind.{CommentKind}
use Rattle.js_text.specs.declared.comment.CommentKind.TheVariants.{Line, SingleLineBlock, MultiLineBlock, HtmlOpen}
use Rattle.js_text.specs.declared.comment.CommentKind.TheVariants.{HtmlClose}
use Rattle.js_kind.specs.TokenParts.{TokenParts}
use Rattle.js_grammar.specs.CommentClasses.{class_of}
use Rattle.js_grammar.specs.Gap.{PieceKind, white_space, line_terminator, single_line_comment, multi_line_comment}
use Rattle.js_grammar.specs.Gap.{html_open_comment, html_close_comment, reported_comment, Piece}
use Rattle.js_grammar.specs.GapItems.{Found, Item, irregular, line_end, comment, Gap}

-- how many bytes the piece has
abbrev pub piece_length : Piece → ℕ
piece_length x = length (encode_utf8_all x.text)

-- the piece is a comment that ends before the next line end
abbrev pub is_line_comment : PieceKind → Bool
is_line_comment white_space = false
is_line_comment line_terminator = false
is_line_comment single_line_comment = true
is_line_comment multi_line_comment = false
is_line_comment html_open_comment = true
is_line_comment html_close_comment = true
is_line_comment reported_comment = true

-- U+2028 and U+2029: line ends that are no ASCII
unfoldable pub is_separator : ℕ → Bool
is_separator c = (c == 0x2028) || (c == 0x2029)

-- the span of a piece at this place
abbrev pub piece_span : ℕ → Piece → Span
piece_span place x = record { start = place; end = place + piece_length x }

-- the characters between the marks of a comment of the kind
abbrev pub content_characters : CommentKind → List ℕ → List ℕ
content_characters kind text = drop (opening_length kind) (take (length text - closing_length kind) text)

-- a comment of the kind at this place
abbrev pub found_comment : ℕ → CommentKind → Piece → Found
found_comment place kind x = record {
  span = piece_span place x;
  kind = kind;
  content = class_of (not (is_line_kind kind)) (encode_utf8_all (content_characters kind x.text));
}

-- a block comment, with a line end inside or without
abbrev pub block_kind : List ℕ → CommentKind
block_kind text = if list_any is_line_terminator text then MultiLineBlock else SingleLineBlock

-- irregular white space is listed where it is
abbrev pub listed_if : Bool → Span → List Item
listed_if true span = irregular span ∷ []
listed_if false span = []

-- The items of a piece of the kind at this place, where the flag tells whether a line comment stands right before it. A
-- U+2028 or U+2029 is listed with irregular white space, but not where it ends a line comment.
abbrev pub items_of_kind : PieceKind → ℕ → Bool → Piece → List Item
items_of_kind white_space place ends x = listed_if (begins is_irregular_whitespace x.text) (piece_span place x)
items_of_kind line_terminator place ends x =
    listed_if (begins is_separator x.text && not ends) (piece_span place x) ++ line_end ∷ []
items_of_kind single_line_comment place ends x = comment (found_comment place Line x) ∷ []
items_of_kind multi_line_comment place ends x = comment (found_comment place (block_kind x.text) x) ∷ []
items_of_kind html_open_comment place ends x = comment (found_comment place HtmlOpen x) ∷ []
items_of_kind html_close_comment place ends x = comment (found_comment place HtmlClose x) ∷ []
items_of_kind reported_comment place ends x = comment (found_comment place HtmlOpen x) ∷ []

-- The items of pieces from this place on.
abbrev pub items_from : ℕ → Bool → List Piece → List Item
items_from place ends [] = []
items_from place ends (x ∷ xs) =
    items_of_kind x.kind place ends x ++ items_from (place + piece_length x) (is_line_comment x.kind) xs

-- The items of a whole gap that starts at this place.
abbrev pub items_of : ℕ → List Piece → List Item
items_of place pieces = items_from place false pieces

-- The gap of these pieces, which starts at this place, between two tokens.
abbrev pub gap_of : Bool → TokenParts → ℕ → List Piece → TokenParts → Gap
gap_of is_first previous place pieces token = record {
  is_first = is_first;
  previous = previous;
  items = items_of place pieces;
  token = token;
}
