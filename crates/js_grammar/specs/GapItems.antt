-- What a gap between two tokens has beside regular white space: its items.
use Rattle.std.specs.Prelude.{Bool, true, false, List, [], ◌∷◌, Option, Some, None, unwrap_or, if◌then◌else◌, ◌||◌}
use Rattle.js_text.specs.Comment.{is_line_kind}
use Rattle.js_text.specs.declared.span.Span.{Span}
use Rattle.js_text.specs.declared.comment.CommentKind.{CommentKind}
use Rattle.js_text.specs.declared.comment.CommentContent.{CommentContent}
use Rattle.js_kind.specs.TokenParts.{TokenParts, default_parts}
use Rattle.js_kind.specs.declared.kind.Kind.TheVariants.{Undetermined}

-- a comment as it stands in the text
pub record Found : Type 0 where
  pub span : Span
  pub kind : CommentKind
  pub content : CommentContent

-- What a gap has beside regular white space, in the order of the text: irregular white space that is listed, a line
-- end, a comment. A line end that is listed too is two items.
pub data Item : Type 0 where
  irregular : Span → Item
  line_end : Item
  comment : Found → Item

-- A gap with the tokens before and after it. Before the first gap stands a token of kind `Undetermined`.
pub record Gap : Type 0 where
  pub is_first : Bool
  pub previous : TokenParts
  pub items : List Item
  pub token : TokenParts

-- what stands for the token before the first gap
abbrev pub no_token : TokenParts
no_token = record default_parts { kind = Undetermined }

-- the token before a gap, if there is one, or what stands for it
abbrev pub token_before : Option TokenParts → TokenParts
token_before before = unwrap_or before no_token

-- the item is a comment
abbrev pub is_comment : Item → Bool
is_comment (irregular span) = false
is_comment line_end = false
is_comment (comment found) = true

-- a newline event: a line end or a line comment
abbrev pub is_newline_event : Item → Bool
is_newline_event (irregular span) = false
is_newline_event line_end = true
is_newline_event (comment found) = is_line_kind found.kind

-- a newline event is among the items
abbrev pub has_newline_event : List Item → Bool
has_newline_event [] = false
has_newline_event (x ∷ xs) = is_newline_event x || has_newline_event xs

-- the items up to the first newline event, that one included
abbrev pub up_to_newline_event : List Item → List Item
up_to_newline_event [] = []
up_to_newline_event (x ∷ xs) = x ∷ (if is_newline_event x then [] else up_to_newline_event xs)

-- the last comment of the items
abbrev pub last_comment : List Item → Option Found
last_comment [] = None
last_comment (irregular span ∷ xs) = last_comment xs
last_comment (line_end ∷ xs) = last_comment xs
last_comment (comment found ∷ xs) = Some (unwrap_or (last_comment xs) found)

-- the first item is a line end
abbrev pub begins_with_line_end : List Item → Bool
begins_with_line_end [] = false
begins_with_line_end (irregular span ∷ xs) = false
begins_with_line_end (line_end ∷ xs) = true
begins_with_line_end (comment found ∷ xs) = false

-- the items from the first newline event on
abbrev pub from_newline_event : List Item → List Item
from_newline_event [] = []
from_newline_event (x ∷ xs) = if is_newline_event x then x ∷ xs else from_newline_event xs

-- the items from the first on that is not white
abbrev pub skip_irregular : List Item → List Item
skip_irregular [] = []
skip_irregular (irregular span ∷ xs) = skip_irregular xs
skip_irregular (line_end ∷ xs) = line_end ∷ xs
skip_irregular (comment found ∷ xs) = comment found ∷ xs

-- Of the items before a comment, the nearest first, those up to the nearest comment, that one included.
abbrev pub stretch : List Item → List Item
stretch [] = []
stretch (x ∷ xs) = x ∷ (if is_comment x then [] else stretch xs)

-- a comment is among the items
abbrev pub has_comment : List Item → Bool
has_comment [] = false
has_comment (x ∷ xs) = is_comment x || has_comment xs

-- a comment with this span
abbrev pub found_at : Span → CommentKind → CommentContent → Found
found_at span kind content = record { span = span; kind = kind; content = content }

-- the irregular white space among the items
abbrev pub irregular_of : List Item → List Span
irregular_of [] = []
irregular_of (irregular span ∷ xs) = span ∷ irregular_of xs
irregular_of (line_end ∷ xs) = irregular_of xs
irregular_of (comment found ∷ xs) = irregular_of xs
