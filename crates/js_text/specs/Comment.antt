-- The names of the parts of a comment, and its marks.
use Rattle.std.specs.Prelude.{ℕ, ◌+◌, ◌-◌, ◌≤◌, Bool, true, false, List, codes}
use Rattle.js_text.specs.declared.span.Span.{Span}
use Rattle.js_text.specs.declared.comment.CommentKind.{CommentKind}
use Rattle.js_text.specs.declared.comment.CommentKind.TheVariants.{Line, SingleLineBlock, MultiLineBlock, HtmlOpen}
use Rattle.js_text.specs.declared.comment.CommentKind.TheVariants.{HtmlClose}
use Rattle.js_text.specs.declared.comment.CommentPosition.{CommentPosition}
use Rattle.js_text.specs.declared.comment.CommentPosition.TheVariants.{Leading, Trailing}
use Rattle.js_text.specs.declared.comment.CommentContent.{CommentContent}
use Rattle.js_text.specs.declared.comment.CommentContent.TheVariants.{None, Legal, Jsdoc, JsdocLegal, Pure}
use Rattle.js_text.specs.declared.comment.CommentContent.TheVariants.{PureNotApplied, NoSideEffects}
use Rattle.js_text.specs.declared.comment.CommentContent.TheVariants.{NoSideEffectsNotApplied, Webpack, Vite}
use Rattle.js_text.specs.declared.comment.CommentContent.TheVariants.{CoverageIgnore, CoverageIgnoreFile, Turbopack}
use Rattle.js_text.specs.declared.comment.CommentContent.TheVariants.{PropertyKey}

-- the name of its variant
abbrev pub comment_kind_name : CommentKind → List ℕ
comment_kind_name Line = codes "Line"
comment_kind_name SingleLineBlock = codes "SingleLineBlock"
comment_kind_name MultiLineBlock = codes "MultiLineBlock"
comment_kind_name HtmlOpen = codes "HtmlOpen"
comment_kind_name HtmlClose = codes "HtmlClose"

abbrev pub comment_position_name : CommentPosition → List ℕ
comment_position_name Leading = codes "Leading"
comment_position_name Trailing = codes "Trailing"

abbrev pub comment_content_name : CommentContent → List ℕ
comment_content_name None = codes "None"
comment_content_name Legal = codes "Legal"
comment_content_name Jsdoc = codes "Jsdoc"
comment_content_name JsdocLegal = codes "JsdocLegal"
comment_content_name Pure = codes "Pure"
comment_content_name PureNotApplied = codes "PureNotApplied"
comment_content_name NoSideEffects = codes "NoSideEffects"
comment_content_name NoSideEffectsNotApplied = codes "NoSideEffectsNotApplied"
comment_content_name Webpack = codes "Webpack"
comment_content_name Vite = codes "Vite"
comment_content_name CoverageIgnore = codes "CoverageIgnore"
comment_content_name CoverageIgnoreFile = codes "CoverageIgnoreFile"
comment_content_name Turbopack = codes "Turbopack"
comment_content_name PropertyKey = codes "PropertyKey"

-- the comment ends before the next line end
abbrev pub is_line_kind : CommentKind → Bool
is_line_kind Line = true
is_line_kind SingleLineBlock = false
is_line_kind MultiLineBlock = false
is_line_kind HtmlOpen = true
is_line_kind HtmlClose = true

-- the bytes of the mark in front: `//`, `/*`, `<!--` or `-->`
abbrev pub opening_length : CommentKind → ℕ
opening_length Line = 2
opening_length SingleLineBlock = 2
opening_length MultiLineBlock = 2
opening_length HtmlOpen = 4
opening_length HtmlClose = 3

-- the bytes of the mark at the end: `*/`, or none
abbrev pub closing_length : CommentKind → ℕ
closing_length Line = 0
closing_length SingleLineBlock = 2
closing_length MultiLineBlock = 2
closing_length HtmlOpen = 0
closing_length HtmlClose = 0

-- the span is long enough for the marks of a comment of the kind
abbrev pub HoldsMarks : CommentKind → Span → Type 0
HoldsMarks kind span = span.start + (opening_length kind + closing_length kind) ≤ span.end

-- the span of a comment of the kind, without its marks
abbrev pub content_span : CommentKind → Span → Span
content_span kind span = record {
  start = span.start + opening_length kind;
  end = span.end - closing_length kind;
}
