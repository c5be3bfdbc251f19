-- The elements of a page: one for each token and each comment, in order of place.
use Rattle.std.specs.Prelude.{ℕ, nat_lt, List, [], ◌∷◌, ◌++◌, Some, None, drop, flat_map, map, take}
use Rattle.std.specs.List.{prefix_len}
use Rattle.js_kind.specs.TokenParts.{TokenParts}
use Rattle.js_text.specs.declared.comment.Comment.{Comment}
use Rattle.js_page.specs.Classes.{class_of_comment, class_of_token}
use Rattle.js_page.specs.Lines.{pieces_in}
use Rattle.js_page.specs.Parts.{Here, behind_part, part_to}
use Rattle.js_page.specs.Pieces.{Piece, fault_closing, fault_opening}
use Rattle.js_page.specs.declared.class.Class.{Class}
use Rattle.js_page.specs.declared.writing.Fault.{Fault}

-- An element: its class, and where what it shows starts and ends.
pub record Element : Type 0 where
  pub class : Class
  pub start : ℕ
  pub end : ℕ

abbrev pub token_element : TokenParts → Element
token_element token = record { class = class_of_token token.kind; start = token.start; end = token.end }

abbrev pub comment_element : Comment → Element
comment_element comment = record {
  class = class_of_comment comment.content;
  start = comment.span.start;
  end = comment.span.end;
}

-- how many of the comments, from the first on, start before a place
abbrev pub comments_before : ℕ → List Comment → ℕ
comments_before to comments = prefix_len (λ (comment : Comment). nat_lt comment.span.start to) comments

-- The elements of comments and tokens: a comment stands before the first token that does not start before it.
abbrev pub elements_of : List Comment → List TokenParts → List Element
elements_of comments [] = map comment_element comments
elements_of comments (token ∷ tokens) =
    map comment_element (take (comments_before token.start comments) comments)
    ++ token_element token ∷ elements_of (drop (comments_before token.start comments) comments) tokens

-- what stands before an element, and the element
abbrev pub element_pieces : Element → Here → List Piece
element_pieces element here =
    part_to None element.start here ++ part_to (Some element.class) element.end (behind_part element.start here)

-- where the writing is behind an element
abbrev pub behind_element : Element → Here → Here
behind_element element here = behind_part element.end (behind_part element.start here)

-- faults that start behind all that is left, each in an element of its own with no text
abbrev pub late_faults : List Fault → List Piece
late_faults faults =
    flat_map (λ (fault : Fault). fault_opening fault.title ∷ fault_closing ∷ []) faults

-- the pieces of elements and of what stands before, between and behind them
abbrev pub pieces_from : Here → List Element → List Piece
pieces_from here [] = pieces_in here.lines here.left ++ late_faults here.faults
pieces_from here (element ∷ elements) =
    element_pieces element here ++ pieces_from (behind_element element here) elements
