-- Ranges of comments, and the classes of those that a parser has taken up.
use Rattle.std.specs.Prelude.{List, ◌++◌, length, map, take, drop, slice_range}
use Rattle.js_text.specs.declared.comment.CommentContent.{CommentContent}
use Rattle.js_text.specs.declared.comment.CommentContent.TheVariants as class
use Rattle.js_text.specs.declared.comment.CommentRange.{CommentRange}
use Rattle.js_text.specs.declared.comment.Comment.{Comment}
use Rattle.js_trivia.specs.Trivia.{Trivia, IsRangeUpTo, held}

-- the range has a comment in it, and ends within the list
abbrev pub IsRangeOf : List Comment → CommentRange → Type 0
IsRangeOf comments range = IsRangeUpTo (length comments) range

-- the class of a comment once a parser has taken up its `@__PURE__`
abbrev pub pure_applied : CommentContent → CommentContent
pure_applied class.PureNotApplied = class.Pure
pure_applied content = content

-- the class of a comment once a parser has taken up its `@__NO_SIDE_EFFECTS__`
abbrev pub no_side_effects_applied : CommentContent → CommentContent
no_side_effects_applied class.NoSideEffectsNotApplied = class.NoSideEffects
no_side_effects_applied content = content

-- the comment with what becomes of its class
abbrev pub mark : (CommentContent → CommentContent) → Comment → Comment
mark applied c = record c { content = applied c.content }

-- the comments, those of the range marked
abbrev pub marked_within : CommentRange → (CommentContent → CommentContent) → List Comment → List Comment
marked_within range applied cs =
    take range.start cs ++ map (mark applied) (slice_range cs range.start range.end) ++ drop range.end cs

-- the same with other comments in the place of those that are held, one for each
abbrev pub with_held : List Comment → Trivia → Trivia
with_held comments s =
    let count = length s.attachment.attached in
    record s { attachment = record s.attachment { attached = take count comments; pending = drop count comments } }

-- the same with the comments of the range marked
abbrev pub mark_range : (CommentContent → CommentContent) → CommentRange → Trivia → Trivia
mark_range applied range s = with_held (marked_within range applied (held s.attachment)) s
