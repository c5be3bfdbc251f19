-- What stands for a comment in a text without comments.
use Rattle.std.specs.Prelude.{ℕ, List, Option, Some, None}
use Rattle.js_text.specs.Ascii.{line_feed}
use Rattle.js_text.specs.declared.comment.CommentKind.{CommentKind}
use Rattle.js_text.specs.declared.comment.CommentKind.TheVariants.{Line, SingleLineBlock, MultiLineBlock, HtmlOpen}
use Rattle.js_text.specs.declared.comment.CommentKind.TheVariants.{HtmlClose}
use Rattle.js_grammar.specs.Gap.{PieceKind}
use Rattle.js_grammar.specs.Gap.PieceKind.{white_space, line_terminator, single_line_comment, multi_line_comment}
use Rattle.js_grammar.specs.Gap.PieceKind.{html_open_comment, html_close_comment, reported_comment}
use Rattle.js_grammar.specs.PieceItems.{block_kind}

-- which comment a piece is, by its kind and its characters
abbrev pub kind_of : PieceKind → List ℕ → Option CommentKind
kind_of white_space text = None
kind_of line_terminator text = None
kind_of single_line_comment text = Some Line
kind_of multi_line_comment text = Some (block_kind text)
kind_of html_open_comment text = Some HtmlOpen
kind_of html_close_comment text = Some HtmlClose
kind_of reported_comment text = Some HtmlOpen

abbrev pub space : ℕ
space = 0x20

-- what stands for a comment: a line end, where one is inside, else a space (ECMA-262 12.4)
abbrev pub stand_in : CommentKind → ℕ
stand_in Line = space
stand_in SingleLineBlock = space
stand_in MultiLineBlock = line_feed
stand_in HtmlOpen = space
stand_in HtmlClose = space
