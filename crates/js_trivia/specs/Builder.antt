-- What holds of the fields of every trivia builder.
use Rattle.std.specs.Prelude.{◌≡◌, ℕ, ◌≤◌, Bool, false, List, length, Option, None}
use Rattle.js_text.specs.declared.comment.Comment.{Comment}
use Rattle.js_text.specs.declared.comment.CommentRange.{CommentRange}
use Rattle.js_text.specs.declared.span.Span.{Span}
use Rattle.js_trivia.specs.Trivia.{comment_starts, span_starts, AscendFrom}

pub record IsInOrder (processed : ℕ) (comments : List Comment) (spans : List Span) : Type 0 where
  pub within : processed ≤ length comments
  pub comments_ascend : AscendFrom 0 (comment_starts comments)
  pub spans_ascend : AscendFrom 0 (span_starts spans)

-- No comment waits, no line end came since the last token, and no range is held.
pub record AreSettled (processed : ℕ) (comments : List Comment) (saw_newline saw_newline_for_comment : Bool)
    (pure_comments no_side_effects_comments : Option CommentRange) : Type 0 where
  pub all_attached : processed ≡ length comments
  pub saw_none : saw_newline ≡ false
  pub saw_none_for_comment : saw_newline_for_comment ≡ false
  pub no_pure : pure_comments ≡ None
  pub no_without_side_effects : no_side_effects_comments ≡ None
