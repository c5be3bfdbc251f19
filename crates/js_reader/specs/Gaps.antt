-- What the steps of a gap do to the source, and to what is found in it.
use Rattle.std.specs.Prelude.{◌≡◌, ℕ, ◌<◌, Bool, true, false, not, List, codes}
use Rattle.js_text.specs.Ascii.{slash, less_than_sign, hyphen_minus}
use Rattle.js_text.specs.Characters.{begins, is_white_space, is_line_terminator}
use Rattle.js_text.specs.declared.comment.CommentKind.{CommentKind}
use Rattle.js_text.specs.declared.comment.CommentKind.TheVariants.{Line, SingleLineBlock, MultiLineBlock, HtmlOpen}
use Rattle.js_text.specs.declared.comment.CommentKind.TheVariants.{HtmlClose}
use Rattle.js_text.specs.declared.source_type.SourceType.{SourceType}
use Rattle.js_grammar.specs.Gap.{Piece, PieceKind, single_line_comment, multi_line_comment}
use Rattle.js_grammar.specs.Gap.{html_open_comment, html_close_comment}
use Rattle.js_grammar.specs.Outcome.{gap_deferred, gap_diagnostics}
use Rattle.js_grammar.specs.PieceItems.{items_from}
use Rattle.js_reader.specs.Found.{gap_added}
use Rattle.js_reader.specs.declared.findings_builder.FindingsBuilder.{FindingsBuilder}

-- the byte is an ASCII character that begins no piece of a gap
pub record BeginsNoPiece (b : ℕ) : Type 0 where
  pub ascii : b < 128
  pub no_white_space : is_white_space b ≡ false
  pub no_line_terminator : is_line_terminator b ≡ false
  pub no_slash : b ≡ slash → ⊥
  pub no_angle : b ≡ less_than_sign → ⊥
  pub no_minus : b ≡ hyphen_minus → ⊥

-- the mark that a comment of the kind begins with
abbrev pub opening_sequence : CommentKind → List ℕ
opening_sequence Line = codes "//"
opening_sequence SingleLineBlock = codes "/*"
opening_sequence MultiLineBlock = codes "/*"
opening_sequence HtmlOpen = codes "<!--"
opening_sequence HtmlClose = codes "-->"

-- what a comment of the kind is as a piece of any gap
abbrev pub piece_kind : CommentKind → PieceKind
piece_kind Line = single_line_comment
piece_kind SingleLineBlock = multi_line_comment
piece_kind MultiLineBlock = multi_line_comment
piece_kind HtmlOpen = html_open_comment
piece_kind HtmlClose = html_close_comment

-- the comment is an HTML-like one
abbrev pub is_html : CommentKind → Bool
is_html Line = false
is_html SingleLineBlock = false
is_html MultiLineBlock = false
is_html HtmlOpen = true
is_html HtmlClose = true

-- a line terminator is next, or nothing is left
abbrev pub IsAtLineEnd : List ℕ → Type 0
IsAtLineEnd here = begins (λ c. not (is_line_terminator c)) here ≡ false

-- what pieces at the place, of which the first stands right behind a line comment or not, add to what was found
abbrev pub AddsPieces : Bool → SourceType → ℕ → List Piece → FindingsBuilder → FindingsBuilder → Type 0
AddsPieces behind t place pieces old new =
    new ≡ gap_added (gap_diagnostics place pieces) (gap_deferred t place pieces) (items_from place behind pieces) old
