-- What a trivia builder holds, and what each call makes of it.
use Rattle.std.specs.Prelude.{◌≡◌, ℕ, ◌+◌, ◌^◌, ◌<◌, ◌≤◌, Bool, true, false, ◌&&◌, eqb, nat_lt, List, [], ◌∷◌, ◌++◌}
use Rattle.std.specs.Prelude.{map, length, take, Option, Some, None, IfSome, if◌then◌else◌, ⊤, not, slice_range}
use Rattle.std.specs.List.{position_from}
use Rattle.js_kind.specs.TokenParts.{TokenParts}
use Rattle.js_text.specs.declared.comment.CommentContent.{CommentContent}
use Rattle.js_text.specs.declared.comment.CommentContent.TheVariants.{PureNotApplied, NoSideEffectsNotApplied}
use Rattle.js_text.specs.declared.comment.CommentRange.{CommentRange}
use Rattle.js_text.specs.declared.comment.Comment.{Comment}
use Rattle.js_text.specs.declared.span.Span.{Span}
use Rattle.js_trivia.specs.declared.lengths.TriviaLengths.{TriviaLengths}
use Rattle.js_grammar.specs.GapItems.{found_at, Found, Item, irregular, line_end, comment, Gap, irregular_of}
use Rattle.js_grammar.specs.GapItems.{no_token}
use Rattle.std.specs.Str.{IsCharBoundary}
use Rattle.js_text.specs.Comment.{is_line_kind, HoldsMarks, content_span}
use Rattle.js_text.specs.declared.comment.CommentKind.{CommentKind}
use Rattle.js_grammar.specs.CommentClasses.{class_of, is_licensed}
use Rattle.js_grammar.specs.Attach.{attach}
use Rattle.js_trivia.specs.Attachment.{Attachment, after_comment, after_newline, after_token, between_gaps}

pub record Trivia : Type 0 where
  pub attachment : Attachment
  pub irregular_whitespaces : List Span
  pub pure_comments : Option CommentRange
  pub no_side_effects_comments : Option CommentRange

-- the builder that holds nothing, before the first gap
abbrev pub no_trivia : Trivia
no_trivia = record {
  attachment = between_gaps [] true no_token;
  irregular_whitespaces = [];
  pure_comments = None;
  no_side_effects_comments = None;
}

-- all comments, in the order of the text
abbrev pub held : Attachment → List Comment
held a = a.attached ++ a.pending

abbrev pub comment_starts : List Comment → List ℕ
comment_starts cs = map (λ c. c.span.start) cs

abbrev pub span_starts : List Span → List ℕ
span_starts spans = map (λ span. span.start) spans

-- n is past the last
abbrev pub is_past : ℕ → List ℕ → Bool
is_past n [] = true
is_past n (s ∷ []) = nat_lt s n
is_past n (s ∷ t ∷ ss) = is_past n (t ∷ ss)

-- Starts of spans from low on, each past the one before, and each before the greatest place.
abbrev pub AscendFrom : ℕ → List ℕ → Type 0
AscendFrom low [] = ⊤
AscendFrom low (s ∷ ss) = (low ≤ s) × (s + 1 < 2 ^ 32) × AscendFrom (s + 1) ss

abbrev pub is_pure_not_applied : CommentContent → Bool
is_pure_not_applied PureNotApplied = true
is_pure_not_applied _ = false

abbrev pub is_no_side_effects_not_applied : CommentContent → Bool
is_no_side_effects_not_applied NoSideEffectsNotApplied = true
is_no_side_effects_not_applied _ = false

-- The range has a comment in it, and ends within so many comments.
pub record IsRangeUpTo (count : ℕ) (range : CommentRange) : Type 0 where
  pub start : range.start < range.end
  pub end : range.end ≤ count

-- Both ranges of annotations are such, where they are there.
pub record AreRangesUpTo (count : ℕ) (pure no_side_effects : Option CommentRange) : Type 0 where
  pub pure_comments : IfSome pure (IsRangeUpTo count)
  pub no_side_effects_comments : IfSome no_side_effects (IsRangeUpTo count)

-- The comment at an index begins a range, or the range ends after it; one that starts later becomes that comment alone.
abbrev pub extend : ℕ → Option CommentRange → Option CommentRange
extend index None = Some (record { start = index; end = index + 1 })
extend index (Some range) =
    Some (record { start = if nat_lt index range.start then index else range.start; end = index + 1 })

abbrev pub extend_if : Bool → ℕ → Option CommentRange → Option CommentRange
extend_if true index range = extend index range
extend_if false index range = range

-- the ranges after a comment of this class at an index
abbrev pub note_class : CommentContent → ℕ → Trivia → Trivia
note_class content index s = record s {
  pure_comments = extend_if (is_pure_not_applied content) index s.pure_comments;
  no_side_effects_comments = extend_if (is_no_side_effects_not_applied content) index s.no_side_effects_comments;
}

abbrev pub note_class_at : CommentContent → Option ℕ → Trivia → Trivia
note_class_at content None s = s
note_class_at content (Some index) s = note_class content index s

abbrev pub is_span : ℕ → ℕ → Comment → Bool
is_span start end c = eqb c.span.start start && eqb c.span.end end

-- the text has the comment and what is between its marks, from character to character
pub record IsPlacedIn (text : List ℕ) (kind : CommentKind) (span : Span) : Type 0 where
  pub marks : HoldsMarks kind span
  pub start : IsCharBoundary text span.start
  pub end : IsCharBoundary text span.end
  pub content_start : IsCharBoundary text (content_span kind span).start
  pub content_end : IsCharBoundary text (content_span kind span).end

-- the class of a comment of the text
abbrev pub class_in_text : List ℕ → CommentKind → Span → CommentContent
class_in_text text kind span =
    let content = content_span kind span in
    class_of (not (is_line_kind kind)) (slice_range text content.start content.end)

-- `@license` or `@preserve` stands in a comment of the text
abbrev pub is_licensed_in : List ℕ → CommentKind → Span → Bool
is_licensed_in text kind span =
    let content = content_span kind span in
    is_licensed (slice_range text content.start content.end)

-- a comment of the text
abbrev pub found_in : List ℕ → CommentKind → Span → Found
found_in text kind span = found_at span kind (class_in_text text kind span)

-- a comment that starts here is new: all that are held start before
abbrev pub IsNew : ℕ → Trivia → Type 0
IsNew start s = is_past start (comment_starts (held s.attachment)) ≡ true

-- the index that such a comment gets
abbrev pub index_of_new : ℕ → List Comment → Option ℕ
index_of_new start comments = if is_past start (comment_starts comments) then Some (length comments) else None

abbrev pub push_comment : Found → Trivia → Trivia
push_comment found s = record s { attachment = after_comment found s.attachment }

abbrev pub add_new_comment : Found → Trivia → Trivia
add_new_comment found s =
    note_class found.content (length (held s.attachment)) (record s { attachment = after_comment found s.attachment })

-- A comment that starts past the last one is added. Another one is not, but is noted where it is held already.
abbrev pub add_comment : Found → Trivia → Trivia
add_comment found s =
    if is_past found.span.start (comment_starts (held s.attachment))
    then add_new_comment found s
    else note_class_at found.content (position_from (is_span found.span.start found.span.end) 0 (held s.attachment)) s

abbrev pub add_irregular : Span → Trivia → Trivia
add_irregular span s =
    if is_past span.start (span_starts s.irregular_whitespaces)
    then record s { irregular_whitespaces = s.irregular_whitespaces ++ span ∷ [] }
    else s

abbrev pub handle_newline : Trivia → Trivia
handle_newline s = record s { attachment = after_newline s.attachment }

abbrev pub handle_token : TokenParts → Trivia → Trivia
handle_token token s = record s { attachment = after_token token s.attachment }

-- the same with no range of annotations
abbrev pub without_ranges : Trivia → Trivia
without_ranges s = record s { pure_comments = None; no_side_effects_comments = None }

abbrev pub call : Item → Trivia → Trivia
call (irregular span) s = add_irregular span s
call line_end s = handle_newline s
call (comment found) s = add_comment found s

-- Nothing is kept but the lists and the last token: no comment waits, no line end came since the last token, and no
-- range is held. Such a builder was told a token.
pub record IsSettled (s : Trivia) : Type 0 where
  pub none_waits : s.attachment.pending ≡ []
  pub saw_none : s.attachment.saw_newline ≡ false
  pub saw_none_for_comment : s.attachment.saw_newline_for_comment ≡ false
  pub no_pure : s.pure_comments ≡ None
  pub no_without_side_effects : s.no_side_effects_comments ≡ None

-- the calls for the events of a gap, in their order
abbrev pub calls : List Item → Trivia → Trivia
calls [] s = s
calls (x ∷ xs) s = calls xs (call x s)

-- Spans and comments start at low or later, one past another, and before high.
abbrev pub Ascends : ℕ → List Item → ℕ → Type 0
Ascends low [] high = low ≤ high
Ascends low (irregular span ∷ xs) high = (low ≤ span.start) × Ascends (span.start + 1) xs high
Ascends low (line_end ∷ xs) high = Ascends low xs high
Ascends low (comment found ∷ xs) high = (low ≤ found.span.start) × Ascends (found.span.start + 1) xs high

-- What is held starts before low.
pub record HeldBefore (low : ℕ) (s : Trivia) : Type 0 where
  pub comments : is_past low (comment_starts (held s.attachment)) ≡ true
  pub irregular : is_past low (span_starts s.irregular_whitespaces) ≡ true

-- a range after the comments of a gap, the first of them at this index
abbrev pub range_after : (CommentContent → Bool) → ℕ → Option CommentRange → List Item → Option CommentRange
range_after is_noted index range [] = range
range_after is_noted index range (irregular span ∷ xs) = range_after is_noted index range xs
range_after is_noted index range (line_end ∷ xs) = range_after is_noted index range xs
range_after is_noted index range (comment found ∷ xs) =
    range_after is_noted (index + 1) (extend_if (is_noted found.content) index range) xs

-- A gap from low to high may be read: no comment waits, both flags tell whether it is the first, and all that is held
-- starts before it.
pub record BeforeGap (low high : ℕ) (gap : Gap) (s : Trivia) : Type 0 where
  pub attachment : s.attachment ≡ between_gaps s.attachment.attached gap.is_first gap.previous
  pub held : HeldBefore low s
  pub ascends : Ascends low gap.items high

-- what is held after a gap
abbrev pub after_gap : Gap → Trivia → Trivia
after_gap gap s =
    let count = length s.attachment.attached in
    record {
      attachment = between_gaps (s.attachment.attached ++ attach gap) false gap.token;
      irregular_whitespaces = s.irregular_whitespaces ++ irregular_of gap.items;
      pure_comments = range_after is_pure_not_applied count s.pure_comments gap.items;
      no_side_effects_comments = range_after is_no_side_effects_not_applied count s.no_side_effects_comments gap.items;
    }

abbrev pub lengths_of : Trivia → TriviaLengths
lengths_of s = record {
  comments = length s.attachment.attached;
  irregular = length s.irregular_whitespaces;
  saw_newline = s.attachment.saw_newline;
  saw_newline_for_comment = s.attachment.saw_newline_for_comment;
  previous = s.attachment.previous;
  pure_range = s.pure_comments;
  no_side_effects = s.no_side_effects_comments;
}

-- both lists cut to these lengths, and all else from there
abbrev pub cut_to : TriviaLengths → Trivia → Trivia
cut_to to s = record {
  attachment = record {
    attached = take to.comments (held s.attachment);
    pending = [];
    saw_newline = to.saw_newline;
    saw_newline_for_comment = to.saw_newline_for_comment;
    previous = to.previous;
  };
  irregular_whitespaces = take to.irregular s.irregular_whitespaces;
  pure_comments = to.pure_range;
  no_side_effects_comments = to.no_side_effects;
}

-- No list is shorter than this, the ranges are of comments that stay, and what stays starts before the place.
pub record CanCutBack (to : TriviaLengths) (place : ℕ) (s : Trivia) : Type 0 where
  pub comments : to.comments ≤ length (held s.attachment)
  pub irregular : to.irregular ≤ length s.irregular_whitespaces
  pub ranges : AreRangesUpTo to.comments to.pure_range to.no_side_effects
  pub comments_before : is_past place (comment_starts (take to.comments (held s.attachment))) ≡ true
  pub irregular_before : is_past place (span_starts (take to.irregular s.irregular_whitespaces)) ≡ true

-- Since s, the lists were only appended to, and no comment of s was changed.
pub record GrewFrom (s now : Trivia) : Type 0 where
  pub comments : List Comment
  pub spans : List Span
  pub held_now : held now.attachment ≡ held s.attachment ++ comments
  pub irregular_now : now.irregular_whitespaces ≡ s.irregular_whitespaces ++ spans
