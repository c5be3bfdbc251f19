-- Marked comments, and what has gone on from a lexer whose comments are marked.
use Rattle.std.proofs.Common.{◌≡◌, ◌≤◌, ◌+◌, ◌-◌, ℕ, Bool, List, [], ◌++◌, length, take, drop, map, sym, ◌∙◌}
use Rattle.std.proofs.Common.{ap, subst, arith, append-nil, append_assoc}
use Rattle.std.specs.Prelude.{slice_range, is_none}
use Rattle.std.proofs.lemmas.List.{take-append-drop, drop-drop, take_all, drop_all, length-map, map-append}
use Rattle.js_text.specs.declared.comment.Comment.{Comment}
use Rattle.js_text.specs.declared.comment.CommentContent.{CommentContent}
use Rattle.js_text.specs.declared.comment.CommentRange.{CommentRange}
use Rattle.js_grammar.specs.GapItems.{token_before}
use Rattle.js_grammar.specs.Outcome.{Findings, joined}
use Rattle.js_kind.specs.TokenParts.{TokenParts}
use Rattle.js_source.specs.Source.{At}
use Rattle.js_trivia.specs.Attachment.{Attachment, between_gaps}
use Rattle.js_trivia.specs.Marks.{IsRangeOf, mark, marked_within, mark_range}
use Rattle.js_trivia.specs.Trivia.{Trivia, held, comment_starts, span_starts, is_past}
use Rattle.js_trivia.proofs.Marking.{starts_of_marked}
use Rattle.js_reader.specs.Decoded.{Values}
use Rattle.js_lexer.specs.Lexer.{LexerState, IsSound, GoesOnFrom, last_read, with_comments}

-- a list is its front, a stretch behind that, and the rest
cut_in_three : (cs : List Comment) (start end : ℕ) → start ≤ end
    → take start cs ++ (slice_range cs start end ++ drop end cs) ≡ cs
cut_in_three cs start end le =
    let same : start + (end - start) ≡ end = omega arith in
    ap (λ ds. take start cs ++ (slice_range cs start end ++ ds))
    (ap (λ n. drop n cs) (sym same) ∙ sym (drop-drop (end - start) start cs))
    ∙ ap (λ ds. take start cs ++ ds) (take-append-drop (end - start) (drop start cs))
    ∙ take-append-drop start cs

-- Marks leave where comments start.
starts_of_range : (range : CommentRange) (applied : CommentContent → CommentContent) (cs : List Comment)
    → IsRangeOf cs range → comment_starts (marked_within range applied cs) ≡ comment_starts cs
starts_of_range range applied cs is =
    let start : Comment → ℕ = λ c. c.span.start in
    let front = take range.start cs in
    let part = slice_range cs range.start range.end in
    let rest = drop range.end cs in
    ap comment_starts (append_assoc front (map (mark applied) part) rest)
    ∙ map-append start front (map (mark applied) part ++ rest)
    ∙ ap (λ ss. comment_starts front ++ ss)
    (map-append start (map (mark applied) part) rest
    ∙ ap (λ ss. ss ++ comment_starts rest) (starts_of_marked applied part)
    ∙ sym (map-append start part rest))
    ∙ sym (map-append start front (part ++ rest))
    ∙ ap comment_starts (cut_in_three cs range.start range.end (omega (arith, is.start)))

-- and how many there are
pub length-marked : (range : CommentRange) (applied : CommentContent → CommentContent) (cs : List Comment)
    → IsRangeOf cs range → length (marked_within range applied cs) ≡ length cs
length-marked range applied cs is =
    sym (length-map (marked_within range applied cs) (λ (c : Comment). c.span.start))
    ∙ ap length (starts_of_range range applied cs is)
    ∙ length-map cs (λ (c : Comment). c.span.start)

-- A lexer whose comments are marked has gone on, but for the marks of what was there.
pub marked_goes_on : (earlier now : LexerState) (range : CommentRange) (applied : CommentContent → CommentContent)
    → GoesOnFrom earlier now → IsRangeOf now.findings.comments range
    → GoesOnFrom
    (with_comments (take (length earlier.findings.comments) (marked_within range applied now.findings.comments)) earlier)
    (with_comments (marked_within range applied now.findings.comments) now)
marked_goes_on earlier now range applied goes is =
    let marked = marked_within range applied now.findings.comments in
    let count = length earlier.findings.comments in
    record {
      text = goes.text;
      source_type = goes.source_type;
      collects = goes.collects;
      tokens = goes.tokens;
      findings = record goes.findings { comments = drop count marked };
      goes_on =
          ap (λ (f : Findings). record f { comments = marked }) goes.goes_on
          ∙ ap (λ cs. record (joined earlier.findings goes.findings) { comments = cs })
          (sym (take-append-drop count marked));
    }

-- a builder between two gaps, whose comments are marked
record IsMarked (s now : Trivia) (marked : List Comment) : Type 0 where
  pub attached : now.attachment.attached ≡ marked
  pub attachment : now.attachment ≡ record s.attachment { attached = marked; pending = [] }
  pub starts : comment_starts marked ≡ comment_starts (held s.attachment)
  pub irregular : now.irregular_whitespaces ≡ s.irregular_whitespaces

-- the comments of a builder between two gaps
held_between : (s : Trivia) (is_first : Bool) (previous : TokenParts)
    → s.attachment ≡ between_gaps s.attachment.attached is_first previous
    → held s.attachment ≡ s.attachment.attached
held_between s is_first previous e =
    ap (λ (a : Attachment). s.attachment.attached ++ a.pending) e ∙ append-nil s.attachment.attached

is_marked : (s now : Trivia) (is_first : Bool) (previous : TokenParts) (range : CommentRange)
    (applied : CommentContent → CommentContent)
    → s.attachment ≡ between_gaps s.attachment.attached is_first previous → IsRangeOf s.attachment.attached range
    → now ≡ mark_range applied range s → IsMarked s now (marked_within range applied (held s.attachment))
is_marked s now is_first previous range applied between is now_is =
    let same = held_between s is_first previous between in
    let within : IsRangeOf (held s.attachment) range = subst (λ cs. IsRangeOf cs range) (sym same) is in
    let marked = marked_within range applied (held s.attachment) in
    let count : length marked ≡ length s.attachment.attached =
    length-marked range applied (held s.attachment) within ∙ ap length same in
    let all : take (length s.attachment.attached) marked ≡ marked =
    take_all (length s.attachment.attached) marked (omega (arith, count)) in
    let none : drop (length s.attachment.attached) marked ≡ [] =
    drop_all (length s.attachment.attached) marked (omega (arith, count)) in
    record {
      attached = ap (λ (u : Trivia). u.attachment.attached) now_is ∙ all;
      attachment =
          ap (λ (u : Trivia). u.attachment) now_is
          ∙ ap (λ cs. record s.attachment { attached = cs; pending = drop (length s.attachment.attached) marked }) all
          ∙ ap (λ cs. record s.attachment { attached = marked; pending = cs }) none;
      starts = starts_of_range range applied (held s.attachment) within;
      irregular = ap (λ (u : Trivia). u.irregular_whitespaces) now_is;
    }

-- A lexer whose comments are marked is sound.
pub sound_marked : (here : At) (has_read : Bool) (s now : Trivia) (values : Values) (range : CommentRange)
    (applied : CommentContent → CommentContent) → IsSound here (last_read has_read s.attachment.previous) s values
    → IsRangeOf s.attachment.attached range → now ≡ mark_range applied range s
    → IsSound here (last_read has_read now.attachment.previous) now values
sound_marked here has_read s now values range applied sound is now_is =
    let last = last_read has_read s.attachment.previous in
    let previous = token_before last in
    let marked = marked_within range applied (held s.attachment) in
    let m = is_marked s now (is_none last) previous range applied sound.attachment is now_is in
    subst (λ t. IsSound here (last_read has_read t) now values)
    (sym (ap (λ (u : Trivia). u.attachment.previous) now_is))
    (record {
      last_lies = sound.last_lies;
      last_spelled = sound.last_spelled;
      behind = sound.behind;
      attachment =
          m.attachment
          ∙ ap (λ (a : Attachment). record a { attached = marked; pending = [] }) sound.attachment
          ∙ ap (λ cs. between_gaps cs (is_none last) previous) (sym m.attached);
      held = record {
        comments =
            ap (λ (a : Attachment). is_past previous.start (comment_starts (held a))) m.attachment
            ∙ ap (λ cs. is_past previous.start (comment_starts cs)) (append-nil marked)
            ∙ ap (is_past previous.start) m.starts
            ∙ sound.held.comments;
        irregular = ap (λ spans. is_past previous.start (span_starts spans)) m.irregular ∙ sound.held.irregular;
      };
      are_values = sound.are_values;
    })
