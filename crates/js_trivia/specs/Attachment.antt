-- The comments that wait for a token, and how they get one.
use Rattle.std.specs.Prelude.{ℕ, Bool, true, false, not, ◌&&◌, ◌||◌, List, [], ◌∷◌, ◌++◌, map, take, drop}
use Rattle.std.specs.Prelude.{if◌then◌else◌}
use Rattle.js_kind.specs.TokenParts.{TokenParts}
use Rattle.js_text.specs.declared.comment.CommentPosition.{CommentPosition}
use Rattle.js_text.specs.declared.comment.CommentPosition.TheVariants.{Leading, Trailing}
use Rattle.js_text.specs.declared.comment.Comment.{Comment}
use Rattle.js_grammar.specs.TokensAround.{keeps_line_comment_leading}
use Rattle.js_grammar.specs.GapItems.{Found, Item, irregular, line_end, comment}
use Rattle.js_grammar.specs.CommentClasses.{stays_leading}
use Rattle.js_text.specs.Comment.{is_line_kind}
use Rattle.js_grammar.specs.Attach.{trails_alone}

-- The comments are first those that are attached, then those that wait for the next token.
pub record Attachment : Type 0 where
  pub attached : List Comment
  pub pending : List Comment
  pub saw_newline : Bool
  pub saw_newline_for_comment : Bool
  pub previous : TokenParts

abbrev pub attach_to : CommentPosition → ℕ → Comment → Comment
attach_to position place c = record c { position = position; attached_to = place }

-- the comments, from the n-th on with another place
abbrev pub attached_from : ℕ → (Comment → Comment) → List Comment → List Comment
attached_from n attach cs = take n cs ++ map attach (drop n cs)

-- a comment is trailing where it may be, and is not preceded and does not stay leading
abbrev pub trails : Bool → Comment → Bool
trails may_trail c = may_trail && not c.preceded && not (stays_leading c.content)

abbrev pub mark_followed : Comment → Comment
mark_followed c = record c { followed = true }

abbrev pub mark_last_followed : List Comment → List Comment
mark_last_followed [] = []
mark_last_followed (c ∷ []) = mark_followed c ∷ []
mark_last_followed (c ∷ d ∷ cs) = c ∷ mark_last_followed (d ∷ cs)

abbrev pub last_may_trail : List Comment → Bool
last_may_trail [] = false
last_may_trail (c ∷ []) = not (stays_leading c.content)
last_may_trail (c ∷ d ∷ cs) = last_may_trail (d ∷ cs)

-- a comment that waits for its token
abbrev pub waiting : Found → Bool → Comment
waiting found preceded = record {
  span = found.span;
  kind = found.kind;
  position = Leading;
  attached_to = 0;
  preceded = preceded;
  followed = is_line_kind found.kind;
  content = found.content;
}

-- all that wait are trailing at the previous token's end
abbrev pub trail_pending : Attachment → Attachment
trail_pending s = record s { attached = s.attached ++ map (attach_to Trailing s.previous.end) s.pending; pending = [] }

abbrev pub trail_pending_if : Bool → Attachment → Attachment
trail_pending_if true s = trail_pending s
trail_pending_if false s = s

abbrev pub push_pending : Comment → Attachment → Attachment
push_pending c s = record s { pending = s.pending ++ c ∷ [] }

abbrev pub push_waiting : Found → Attachment → Attachment
push_waiting found s = record s {
  pending = s.pending ++ waiting found s.saw_newline_for_comment ∷ [];
  saw_newline = is_line_kind found.kind || s.saw_newline;
  saw_newline_for_comment = is_line_kind found.kind;
}

-- a line comment takes those that wait with it, where it is trailing
abbrev pub line_comment_trails : Found → Attachment → Bool
line_comment_trails found s =
    is_line_kind found.kind && not s.saw_newline && not (keeps_line_comment_leading s.previous.kind)
    && not (stays_leading found.content)

abbrev pub after_comment : Found → Attachment → Attachment
after_comment found s = trail_pending_if (line_comment_trails found s) (push_waiting found s)

abbrev pub after_newline : Attachment → Attachment
after_newline s =
    trail_pending_if (not s.saw_newline && last_may_trail s.pending)
    (record s { pending = mark_last_followed s.pending; saw_newline = true; saw_newline_for_comment = true })

-- trailing at the end of the token before, or leading at the start of the token after
abbrev pub attach_by : Bool → ℕ → ℕ → Comment → Comment
attach_by trails previous_end token_start c =
    if trails then attach_to Trailing previous_end c else attach_to Leading token_start c

abbrev pub attach_alone : TokenParts → TokenParts → Comment → Comment
attach_alone previous token c =
    attach_by (trails_alone previous token c.preceded (stays_leading c.content)) previous.end token.start c

abbrev pub after_token : TokenParts → Attachment → Attachment
after_token token s = record {
  attached = s.attached ++ map (attach_alone s.previous token) s.pending;
  pending = [];
  saw_newline = false;
  saw_newline_for_comment = false;
  previous = token;
}

-- the calls for one piece: none for white space
abbrev pub after_item : Item → Attachment → Attachment
after_item (irregular span) s = s
after_item line_end s = after_newline s
after_item (comment found) s = after_comment found s

-- the calls for the events of a gap, in their order
abbrev pub after_items : List Item → Attachment → Attachment
after_items [] s = s
after_items (x ∷ xs) s = after_items xs (after_item x s)

-- between two gaps, or before the first
abbrev pub between_gaps : List Comment → Bool → TokenParts → Attachment
between_gaps attached is_first previous = record {
  attached = attached;
  pending = [];
  saw_newline = is_first;
  saw_newline_for_comment = is_first;
  previous = previous;
}
