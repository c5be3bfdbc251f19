-- The comments of a whole gap, and what each is attached to.
use Rattle.std.specs.Prelude.{Bool, false, not, ◌&&◌, ◌||◌, List, [], ◌∷◌, Option, Some, None, if◌then◌else◌}
use Rattle.js_kind.specs.declared.kind.Kind.{Kind}
use Rattle.js_kind.specs.TokenParts.{TokenParts}
use Rattle.js_text.specs.declared.comment.CommentPosition.TheVariants.{Leading, Trailing}
use Rattle.js_text.specs.declared.comment.Comment.{Comment}
use Rattle.js_grammar.specs.TokensAround.{is_eof, is_undetermined, can_end_expression, continues_expression}
use Rattle.js_grammar.specs.TokensAround.{keeps_line_comment_leading}
use Rattle.js_grammar.specs.GapItems.{Found, Item, irregular, line_end, comment, Gap, has_newline_event}
use Rattle.js_grammar.specs.GapItems.{up_to_newline_event, last_comment, begins_with_line_end, from_newline_event}
use Rattle.js_grammar.specs.GapItems.{skip_irregular, stretch, has_comment}
use Rattle.js_grammar.specs.CommentClasses.{stays_leading}
use Rattle.js_text.specs.Comment.{is_line_kind}

-- A newline event stands in the stretch before the comment; the first comment of the first gap is preceded too.
abbrev pub is_preceded : Bool → List Item → Bool
is_preceded is_first before = has_newline_event (stretch before) || (is_first && not (has_comment before))

-- a line comment, or the next piece that is not white is a line end
abbrev pub is_followed : Found → List Item → Bool
is_followed found after = is_line_kind found.kind || begins_with_line_end (skip_irregular after)

abbrev pub may_trail : Option Found → Bool
may_trail None = false
may_trail (Some found) = not (stays_leading found.content)

-- The comments up to the first newline event, that one included, are all trailing.
abbrev pub front_trails : Gap → Bool
front_trails gap =
    not gap.is_first
    && has_newline_event gap.items
    && may_trail (last_comment (up_to_newline_event gap.items))
    && (begins_with_line_end (from_newline_event gap.items) || not (keeps_line_comment_leading gap.previous.kind))

-- the token before may take comments that stand before this token
abbrev pub takes_comments : Kind → Kind → Bool
takes_comments previous token =
    not (is_undetermined previous) && (is_eof token || (can_end_expression previous && continues_expression token))

-- A comment is trailing by itself.
abbrev pub trails_alone : TokenParts → TokenParts → Bool → Bool → Bool
trails_alone previous token preceded stays_leading =
    takes_comments previous.kind token.kind && not preceded && not stays_leading

abbrev pub is_trailing : Gap → List Item → Found → Bool
is_trailing gap before found =
    (front_trails gap && not (has_newline_event before))
    || trails_alone gap.previous gap.token (is_preceded gap.is_first before) (stays_leading found.content)

-- A comment of the gap, where these events stand before it, the nearest first, and these after it.
abbrev pub attached : Gap → List Item → Found → List Item → Comment
attached gap before found after = record {
  span = found.span;
  kind = found.kind;
  position = if is_trailing gap before found then Trailing else Leading;
  attached_to = if is_trailing gap before found then gap.previous.end else gap.token.start;
  preceded = is_preceded gap.is_first before;
  followed = is_followed found after;
  content = found.content;
}

abbrev pub attach_from : Gap → List Item → List Item → List Comment
attach_from gap before [] = []
attach_from gap before (irregular span ∷ after) = attach_from gap (irregular span ∷ before) after
attach_from gap before (line_end ∷ after) = attach_from gap (line_end ∷ before) after
attach_from gap before (comment found ∷ after) =
    attached gap before found after ∷ attach_from gap (comment found ∷ before) after

-- The comments of a gap, in their order.
abbrev pub attach : Gap → List Comment
attach gap = attach_from gap [] gap.items
