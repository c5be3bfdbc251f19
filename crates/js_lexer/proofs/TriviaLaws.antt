-- What a builder holds after a reading, and after one that could not allocate.
use Rattle.std.proofs.Common.{◌≡◌, ℕ, ◌+◌, ◌≤◌, Bool, true, false, List, [], ◌∷◌, ◌++◌, length, map, refl, sym, ◌∙◌}
use Rattle.std.proofs.Common.{ap, subst}
use Rattle.std.proofs.Common.{arith, append_assoc, append-nil, length-append, Option, Some, None}
use Rattle.std.specs.Prelude.{is_none}
use Rattle.js_text.specs.declared.comment.Comment.{Comment}
use Rattle.js_text.specs.declared.comment.CommentContent.{CommentContent}
use Rattle.js_text.specs.declared.comment.CommentPosition.TheVariants.{Trailing}
use Rattle.js_text.specs.declared.comment.CommentRange.{CommentRange}
use Rattle.js_text.specs.declared.source_type.SourceType.{SourceType}
use Rattle.js_text.specs.declared.span.Span.{Span}
use Rattle.js_kind.specs.TokenParts.{TokenParts}
use Rattle.js_grammar.specs.Attach.{attach_from}
use Rattle.js_grammar.specs.GapItems.{Gap, Found, Item, irregular, line_end, comment, token_before}
use Rattle.js_grammar.specs.Outcome.{Outcome}
use Rattle.js_grammar.specs.PieceItems.{gap_of, items_of}
use Rattle.js_trivia.specs.Attachment.{Attachment, between_gaps, attach_to, trail_pending_if, push_waiting}
use Rattle.js_trivia.specs.Attachment.{line_comment_trails}
use Rattle.js_trivia.specs.Pieces.{MayRead, end_of}
use Rattle.js_trivia.specs.Trivia.{Trivia, held, comment_starts, span_starts, is_past, HeldBefore, call, calls}
use Rattle.js_trivia.specs.Trivia.{handle_token, add_new_comment, note_class, note_class_at, extend_if, range_after}
use Rattle.js_trivia.specs.Trivia.{is_pure_not_applied, is_no_side_effects_not_applied, GrewFrom, lengths_of, cut_to}
use Rattle.js_trivia.specs.Trivia.{after_gap}
use Rattle.std.specs.Prelude.{if◌then◌else◌}
use Rattle.js_trivia.proofs.CutBack.{cut_back_restores}
use Rattle.js_trivia.proofs.PieceLaw.{calls_for_pieces, held_after_pieces}
use Rattle.js_trivia.proofs.Starts.{is_past_more}
use Rattle.js_lexer.specs.Lexer.{range_of}
use Rattle.js_reader.specs.Reader.{AddsGap}
use Rattle.js_reader.specs.declared.findings_builder.FindingsBuilder.{FindingsBuilder}

pub held_later : (low high : ℕ) (s : Trivia) → HeldBefore low s → low ≤ high → HeldBefore high s
held_later low high s h le = record {
  comments = is_past_more low high (comment_starts (held s.attachment)) h.comments le;
  irregular = is_past_more low high (span_starts s.irregular_whitespaces) h.irregular le;
}

-- a range after the comments of a gap is that of its items
range_over : (is_noted : CommentContent → Bool) (gap : Gap) (before items : List Item) (index : ℕ)
    (range : Option CommentRange)
    → range_after is_noted index range items ≡ range_of is_noted index range (attach_from gap before items)
range_over is_noted gap before [] index range = refl
range_over is_noted gap before (irregular span ∷ xs) index range =
    range_over is_noted gap (irregular span ∷ before) xs index range
range_over is_noted gap before (line_end ∷ xs) index range =
    range_over is_noted gap (line_end ∷ before) xs index range
range_over is_noted gap before (comment found ∷ xs) index range =
    range_over is_noted gap (comment found ∷ before) xs (index + 1) (extend_if (is_noted found.content) index range)

-- what a builder holds behind a token, where it held these comments, this irregular white space and these ranges
abbrev pub behind_token : List Comment → List Span → Option CommentRange → Option CommentRange → Outcome → Trivia
behind_token comments spans pure no_side_effects outcome = record {
  attachment = between_gaps (comments ++ outcome.findings.comments) false outcome.token;
  irregular_whitespaces = spans ++ outcome.findings.irregular;
  pure_comments = range_of is_pure_not_applied (length comments) pure outcome.findings.comments;
  no_side_effects_comments =
      range_of is_no_side_effects_not_applied (length comments) no_side_effects outcome.findings.comments;
}

-- a builder between two gaps, before a reading
pub record IsBetweenGaps (previous : Option TokenParts) (place : ℕ) (comments : List Comment) (spans : List Span)
    (pure no_side_effects : Option CommentRange) (s : Trivia) : Type 0 where
  pub attachment : s.attachment ≡ between_gaps comments (is_none previous) (token_before previous)
  pub irregular : s.irregular_whitespaces ≡ spans
  pub pure_is : s.pure_comments ≡ pure
  pub no_side_effects_is : s.no_side_effects_comments ≡ no_side_effects
  pub held : HeldBefore place s

module _ (previous : Option TokenParts) (t : SourceType) (place : ℕ) (comments : List Comment) (spans : List Span)
    (pure no_side_effects : Option CommentRange) (outcome : Outcome) (before after : FindingsBuilder)
    (is : IsBetweenGaps previous place comments spans pure no_side_effects before.trivia)
    (adds : AddsGap previous t place outcome before after) where
  gap : Gap
  gap = gap_of (is_none previous) (token_before previous) place adds.pieces outcome.token

  attached_before : before.trivia.attachment.attached ≡ comments
  attached_before = ap (λ (a : Attachment). a.attached) is.attachment

  may : MayRead (is_none previous) (token_before previous) place adds.pieces before.trivia
  may = record {
    attachment =
        is.attachment
        ∙ ap (λ cs. between_gaps cs (is_none previous) (token_before previous)) (sym attached_before);
    held = is.held;
    have_bytes = adds.have_bytes;
  }

  -- the comments of the gap are those of the outcome, and so is the rest
  same : after_gap (gap_of (is_none previous) (token_before previous) place adds.pieces outcome.token) before.trivia
      ≡ behind_token comments spans pure no_side_effects outcome
  same =
      rw (
        attached_before,
        is.irregular,
        is.pure_is,
        is.no_side_effects_is,
        adds.comments,
        adds.irregular,
        ← range_over is_pure_not_applied
            (gap_of (is_none previous) (token_before previous) place adds.pieces outcome.token) []
            (items_of place adds.pieces) (length comments) pure,
        ← range_over is_no_side_effects_not_applied
            (gap_of (is_none previous) (token_before previous) place adds.pieces outcome.token) []
            (items_of place adds.pieces) (length comments) no_side_effects,
      ) refl

  pub told : handle_token outcome.token after.trivia ≡ behind_token comments spans pure no_side_effects outcome
  told =
      ap (λ (f : FindingsBuilder). handle_token outcome.token f.trivia) adds.added
      ∙ calls_for_pieces (is_none previous) (token_before previous) outcome.token place adds.pieces before.trivia may
      ∙ same

  pub held_before_token : HeldBefore outcome.token.start (behind_token comments spans pure no_side_effects outcome)
  held_before_token =
      held_later (end_of place adds.pieces) outcome.token.start
      (behind_token comments spans pure no_side_effects outcome)
      (subst (λ s. HeldBefore (end_of place adds.pieces) s) same
      (held_after_pieces (is_none previous) (token_before previous) outcome.token place adds.pieces before.trivia may))
      adds.up_to

-- comments that are attached stay so, and lists grow
record Extends (s now : Trivia) : Type 0 where
  more : List Comment
  attached : now.attachment.attached ≡ s.attachment.attached ++ more
  spans : List Span
  irregular : now.irregular_whitespaces ≡ s.irregular_whitespaces ++ spans

extends_none : (s now : Trivia) → now.attachment.attached ≡ s.attachment.attached
    → now.irregular_whitespaces ≡ s.irregular_whitespaces → Extends s now
extends_none s now a i = record {
  more = [];
  attached = a ∙ sym (append-nil s.attachment.attached);
  spans = [];
  irregular = i ∙ sym (append-nil s.irregular_whitespaces);
}

extends_on : (s mid now : Trivia) → Extends s mid → Extends mid now → Extends s now
extends_on s mid now f g = record {
  more = f.more ++ g.more;
  attached = g.attached ∙ ap (λ cs. cs ++ g.more) f.attached ∙ append_assoc s.attachment.attached f.more g.more;
  spans = f.spans ++ g.spans;
  irregular = g.irregular ∙ ap (λ xs. xs ++ g.spans) f.irregular ∙ append_assoc s.irregular_whitespaces f.spans g.spans;
}

-- where those that wait are attached, or not
extends_trail : (b : Bool) (s : Trivia) (a : Attachment) → a.attached ≡ s.attachment.attached
    → Extends s (record s { attachment = trail_pending_if b a })
extends_trail true s a e = record {
  more = map (attach_to Trailing a.previous.end) a.pending;
  attached = ap (λ cs. cs ++ map (attach_to Trailing a.previous.end) a.pending) e;
  spans = [];
  irregular = sym (append-nil s.irregular_whitespaces);
}
extends_trail false s a e = extends_none s (record s { attachment = a }) e refl

extends_noted : (content : CommentContent) (index : Option ℕ) (s : Trivia) → Extends s (note_class_at content index s)
extends_noted content None s = extends_none s s refl refl
extends_noted content (Some index) s = extends_none s (note_class content index s) refl refl

extends_if : (b : Bool) (s x y : Trivia) → Extends s x → Extends s y → Extends s (if b then x else y)
extends_if true s x y f g = f
extends_if false s x y f g = g

extends_new : (found : Found) (s : Trivia) → Extends s (add_new_comment found s)
extends_new found s =
    let a = push_waiting found s.attachment in
    let e = extends_trail (line_comment_trails found s.attachment) s a refl in
    record { more = e.more; attached = e.attached; spans = e.spans; irregular = e.irregular }

extends_call : (x : Item) (s : Trivia) → Extends s (call x s)
extends_call (irregular span) s =
    extends_if (is_past span.start (span_starts s.irregular_whitespaces)) s
    (record s { irregular_whitespaces = s.irregular_whitespaces ++ span ∷ [] }) s
    (record { more = []; attached = sym (append-nil s.attachment.attached); spans = span ∷ []; irregular = refl })
    (extends_none s s refl refl)
extends_call line_end s = extends_trail _ s _ refl
extends_call (comment found) s =
    extends_if (is_past found.span.start (comment_starts (held s.attachment))) s (add_new_comment found s) _
    (extends_new found s) (extends_noted found.content _ s)

extends_calls : (xs : List Item) (s : Trivia) → Extends s (calls xs s)
extends_calls [] s = extends_none s s refl refl
extends_calls (x ∷ xs) s =
    extends_on s (call x s) (calls xs (call x s)) (extends_call x s) (extends_calls xs (call x s))

-- So the calls of a reading that could not allocate are undone.
pub grew_by_calls : (s cleared now : Trivia) (items : List Item) → s.attachment.pending ≡ []
    → cleared.attachment ≡ s.attachment → cleared.irregular_whitespaces ≡ s.irregular_whitespaces
    → now ≡ calls items cleared → GrewFrom s now
grew_by_calls s cleared now items none a i e =
    let x = extends_calls items cleared in
    let attached : now.attachment.attached ≡ s.attachment.attached ++ x.more =
    ap (λ (u : Trivia). u.attachment.attached) e ∙ x.attached ∙ ap (λ (b : Attachment). b.attached ++ x.more) a in
    record {
      comments = x.more ++ now.attachment.pending;
      spans = x.spans;
      held_now =
          ap (λ cs. cs ++ now.attachment.pending) attached
          ∙ append_assoc s.attachment.attached x.more now.attachment.pending
          ∙ ap (λ cs. cs ++ (x.more ++ now.attachment.pending))
          (sym (append-nil s.attachment.attached) ∙ ap (λ cs. s.attachment.attached ++ cs) (sym none));
      irregular_now = ap (λ (u : Trivia). u.irregular_whitespaces) e ∙ x.irregular ∙ ap (λ xs. xs ++ x.spans) i;
    }

pub back_after_calls : (s now : Trivia) → s.attachment.pending ≡ [] → GrewFrom s now → cut_to (lengths_of s) now ≡ s
back_after_calls s now none grew = cut_back_restores s now none grew

pub long_enough : (s now : Trivia) → GrewFrom s now
    → (length s.attachment.attached ≤ length (held now.attachment))
    × (length s.irregular_whitespaces ≤ length now.irregular_whitespaces)
long_enough s now grew = (
  omega (
    arith,
    ap length grew.held_now,
    length-append (held s.attachment) grew.comments,
    length-append s.attachment.attached s.attachment.pending,
  ),
  omega (arith, ap length grew.irregular_now, length-append s.irregular_whitespaces grew.spans),
)
