-- What is told of twice is listed once.
use Rattle.std.proofs.Common.{◌≡◌, ℕ, Bool, true, false, List, [], ◌∷◌, ◌++◌, refl, ◌∙◌, ap, arith}
use Rattle.std.specs.Prelude.{nat_lt, Option, Some, None}
use Rattle.std.specs.List.{position_from}
use Rattle.std.proofs.lemmas.Bool.Decides.{nat_tests}
use Rattle.std.proofs.lemmas.List.{map-append}
use Rattle.js_text.specs.declared.comment.CommentContent.{CommentContent}
use Rattle.js_text.specs.declared.span.Span.{Span}
use Rattle.js_grammar.specs.GapItems.{Found}
use Rattle.js_trivia.specs.Trivia.{Trivia, held, comment_starts, span_starts, is_past, is_span, note_class_at}
use Rattle.js_trivia.specs.Trivia.{add_comment, add_new_comment, add_irregular}
use Rattle.js_trivia.proofs.Starts.{starts_after_comment}

not_before_itself : (n : ℕ) → nat_lt n n ≡ false
not_before_itself n = grind (arith, nat_tests)

-- A start is not past itself.
not_past_last : (n : ℕ) (ss : List ℕ) → is_past n (ss ++ n ∷ []) ≡ false
not_past_last n [] = not_before_itself n
not_past_last n (s ∷ []) = not_before_itself n
not_past_last n (s ∷ t ∷ ss) = not_past_last n (t ∷ ss)

note_keeps : (content : CommentContent) (at : Option ℕ) (s : Trivia)
    → (note_class_at content at s).attachment ≡ s.attachment
note_keeps content None s = refl
note_keeps content (Some index) s = refl

-- A comment that starts at or before the last one is not added.
pub earlier_is_not_added : (found : Found) (s : Trivia)
    → is_past found.span.start (comment_starts (held s.attachment)) ≡ false
    → (add_comment found s).attachment ≡ s.attachment
earlier_is_not_added found s old =
    rw old
    (note_keeps found.content (position_from (is_span found.span.start found.span.end) 0 (held s.attachment)) s)

-- Where none of its span is held, it changes nothing.
pub unknown_changes_nothing : (found : Found) (s : Trivia)
    → is_past found.span.start (comment_starts (held s.attachment)) ≡ false
    → position_from (is_span found.span.start found.span.end) 0 (held s.attachment) ≡ None
    → add_comment found s ≡ s
unknown_changes_nothing found s old none = rw (old, none) refl

pub comment_twice : (found : Found) (s : Trivia)
    → (add_comment found (add_comment found s)).attachment ≡ (add_comment found s).attachment
comment_twice found s = by_test (is_past found.span.start (comment_starts (held s.attachment))) refl
  where
    by_test : (x : Bool) → is_past found.span.start (comment_starts (held s.attachment)) ≡ x
        → (add_comment found (add_comment found s)).attachment ≡ (add_comment found s).attachment
    by_test true new =
        let added : add_comment found s ≡ add_new_comment found s = rw new refl in
        earlier_is_not_added found (add_comment found s)
        (ap (λ t. is_past found.span.start (comment_starts (held t.attachment))) added
        ∙ ap (is_past found.span.start) (starts_after_comment found s.attachment)
        ∙ not_past_last found.span.start (comment_starts (held s.attachment)))
    by_test false old =
        earlier_is_not_added found (add_comment found s)
        (ap (λ a. is_past found.span.start (comment_starts (held a))) (earlier_is_not_added found s old) ∙ old)

span_is_not_added : (span : Span) (s : Trivia) → is_past span.start (span_starts s.irregular_whitespaces) ≡ false
    → add_irregular span s ≡ s
span_is_not_added span s old = rw old refl

pub irregular_twice : (span : Span) (s : Trivia) → add_irregular span (add_irregular span s) ≡ add_irregular span s
irregular_twice span s = by_test (is_past span.start (span_starts s.irregular_whitespaces)) refl
  where
    by_test : (x : Bool) → is_past span.start (span_starts s.irregular_whitespaces) ≡ x
        → add_irregular span (add_irregular span s) ≡ add_irregular span s
    by_test true new =
        let spans = s.irregular_whitespaces in
        let added : (add_irregular span s).irregular_whitespaces ≡ spans ++ span ∷ [] = rw new refl in
        span_is_not_added span (add_irregular span s)
        (ap (λ xs. is_past span.start (span_starts xs)) added
        ∙ ap (is_past span.start) (map-append (λ (x : Span). x.start) spans (span ∷ []))
        ∙ not_past_last span.start (span_starts spans))
    by_test false old = ap (add_irregular span) (span_is_not_added span s old)
