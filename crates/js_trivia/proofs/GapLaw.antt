-- The calls for a whole gap: attachment, irregular white space and ranges, each by itself.
use Rattle.std.proofs.Common.{◌≡◌, ℕ, ◌+◌, ◌≤◌, List, [], ◌∷◌, ◌++◌, length, refl, sym, ◌∙◌, ap, subst, arith}
use Rattle.std.proofs.Common.{append-nil, append_assoc}
use Rattle.js_kind.specs.TokenParts.{TokenParts}
use Rattle.js_text.specs.declared.span.Span.{Span}
use Rattle.js_grammar.specs.GapItems.{Found, Item, irregular, line_end, comment, Gap, irregular_of}
use Rattle.js_trivia.specs.Attachment.{after_token, after_items, between_gaps}
use Rattle.js_trivia.specs.Trivia.{Trivia, held, comment_starts, span_starts, is_past, is_pure_not_applied}
use Rattle.js_trivia.specs.Trivia.{is_no_side_effects_not_applied, add_comment, add_new_comment, add_irregular}
use Rattle.js_trivia.specs.Trivia.{handle_newline, handle_token, calls, Ascends, HeldBefore, BeforeGap}
use Rattle.js_trivia.specs.Trivia.{range_after, after_gap}
use Rattle.js_trivia.proofs.Starts.{starts_after_comment, starts_after_newline, starts_after_token}
use Rattle.js_trivia.proofs.Starts.{length_after_comment, length_after_newline, is_past_more, is_past_push}
use Rattle.js_trivia.proofs.Law.{gap_is_attached}
use Rattle.std.proofs.lemmas.List.{map-append}

-- the four parts after the calls for some events
abbrev apart : List Item → Trivia → Trivia
apart xs s = record {
  attachment = after_items xs s.attachment;
  irregular_whitespaces = s.irregular_whitespaces ++ irregular_of xs;
  pure_comments = range_after is_pure_not_applied (length (held s.attachment)) s.pure_comments xs;
  no_side_effects_comments =
      range_after is_no_side_effects_not_applied (length (held s.attachment)) s.no_side_effects_comments xs;
}

-- a comment that starts past what is held is added
adds : (low : ℕ) (found : Found) (s : Trivia) → HeldBefore low s → low ≤ found.span.start → add_comment found s
    ≡ add_new_comment found s
adds low found s h le = rw (is_past_more low found.span.start (comment_starts (held s.attachment)) h.comments le) refl

held_after_comment : (low : ℕ) (found : Found) (s : Trivia) → HeldBefore low s → low ≤ found.span.start
    → HeldBefore (found.span.start + 1) (add_new_comment found s)
held_after_comment low found s h le = record {
  comments = ap (λ ss. is_past (found.span.start + 1) ss) (starts_after_comment found s.attachment)
      ∙ is_past_push found.span.start (comment_starts (held s.attachment));
  irregular = is_past_more low (found.span.start + 1) (span_starts s.irregular_whitespaces) h.irregular (omega arith);
}

adds_irregular : (low : ℕ) (span : Span) (s : Trivia) → HeldBefore low s → low ≤ span.start
    → add_irregular span s ≡ record s { irregular_whitespaces = s.irregular_whitespaces ++ span ∷ [] }
adds_irregular low span s h le =
    rw (is_past_more low span.start (span_starts s.irregular_whitespaces) h.irregular le) refl

held_after_irregular : (low : ℕ) (span : Span) (s : Trivia) → HeldBefore low s → low ≤ span.start
    → HeldBefore (span.start + 1) (record s { irregular_whitespaces = s.irregular_whitespaces ++ span ∷ [] })
held_after_irregular low span s h le = record {
  comments = is_past_more low (span.start + 1) (comment_starts (held s.attachment)) h.comments (omega arith);
  irregular = ap (λ ss. is_past (span.start + 1) ss)
      (map-append (λ (x : Span). x.start) s.irregular_whitespaces (span ∷ []))
      ∙ is_past_push span.start (span_starts s.irregular_whitespaces);
}

held_after_newline : (low : ℕ) (s : Trivia) → HeldBefore low s → HeldBefore low (handle_newline s)
held_after_newline low s h = record {
  comments = ap (λ ss. is_past low ss) (starts_after_newline s.attachment) ∙ h.comments;
  irregular = h.irregular;
}

-- the same, with the number of comments before
abbrev counted : List Item → Trivia → ℕ → Trivia
counted xs s n = record {
  attachment = after_items xs s.attachment;
  irregular_whitespaces = s.irregular_whitespaces ++ irregular_of xs;
  pure_comments = range_after is_pure_not_applied n s.pure_comments xs;
  no_side_effects_comments = range_after is_no_side_effects_not_applied n s.no_side_effects_comments xs;
}

calls_apart : (low high : ℕ) (xs : List Item) (s : Trivia) → HeldBefore low s → Ascends low xs high → calls xs s
    ≡ apart xs s
calls_apart low high [] s h up =
    ap (λ spans. record s { irregular_whitespaces = spans }) (sym (append-nil s.irregular_whitespaces))
calls_apart low high (irregular span ∷ xs) s h up =
    ap (λ t. calls xs t) (adds_irregular low span s h up.0)
    ∙ calls_apart (span.start + 1) high xs
    (record s { irregular_whitespaces = s.irregular_whitespaces ++ span ∷ [] })
    (held_after_irregular low span s h up.0) up.1
    ∙ ap (λ spans. record (apart (irregular span ∷ xs) s) { irregular_whitespaces = spans })
    (append_assoc s.irregular_whitespaces (span ∷ []) (irregular_of xs))
calls_apart low high (line_end ∷ xs) s h up =
    calls_apart low high xs (handle_newline s) (held_after_newline low s h) up
    ∙ ap (λ n. counted xs (handle_newline s) n) (length_after_newline s.attachment)
calls_apart low high (comment found ∷ xs) s h up =
    ap (λ t. calls xs t) (adds low found s h up.0)
    ∙ calls_apart (found.span.start + 1) high xs (add_new_comment found s) (held_after_comment low found s h up.0) up.1
    ∙ ap (λ n. counted xs (add_new_comment found s) n) (length_after_comment found s.attachment)

held_later : (low high : ℕ) (s : Trivia) → HeldBefore low s → low ≤ high → HeldBefore high s
held_later low high s h le = record {
  comments = is_past_more low high (comment_starts (held s.attachment)) h.comments le;
  irregular = is_past_more low high (span_starts s.irregular_whitespaces) h.irregular le;
}

held_after_calls : (low high : ℕ) (xs : List Item) (s : Trivia) → HeldBefore low s → Ascends low xs high
    → HeldBefore high (calls xs s)
held_after_calls low high [] s h up = held_later low high s h up
held_after_calls low high (irregular span ∷ xs) s h up =
    subst (λ t. HeldBefore high (calls xs t)) (sym (adds_irregular low span s h up.0))
    (held_after_calls (span.start + 1) high xs
    (record s { irregular_whitespaces = s.irregular_whitespaces ++ span ∷ [] })
    (held_after_irregular low span s h up.0) up.1)
held_after_calls low high (line_end ∷ xs) s h up =
    held_after_calls low high xs (handle_newline s) (held_after_newline low s h) up
held_after_calls low high (comment found ∷ xs) s h up =
    subst (λ t. HeldBefore high (calls xs t)) (sym (adds low found s h up.0))
    (held_after_calls (found.span.start + 1) high xs (add_new_comment found s)
    (held_after_comment low found s h up.0) up.1)

held_after_token : (high : ℕ) (token : TokenParts) (s : Trivia) → HeldBefore high s
    → HeldBefore high (handle_token token s)
held_after_token high token s h = record {
  comments = ap (λ ss. is_past high ss) (starts_after_token token s.attachment) ∙ h.comments;
  irregular = h.irregular;
}

-- The law: what the calls for a gap leave.
pub calls_for_gap : (low high : ℕ) (gap : Gap) (s : Trivia) → BeforeGap low high gap s
    → handle_token gap.token (calls gap.items s) ≡ after_gap gap s
calls_for_gap low high gap s h =
    ap (λ t. handle_token gap.token t) (calls_apart low high gap.items s h.held h.ascends)
    ∙ ap (λ a. handle_token gap.token
    (record (counted gap.items s (length (held a))) { attachment = after_items gap.items a })) h.attachment
    ∙ ap (λ n. record (counted gap.items s n) {
      attachment = after_token gap.token
          (after_items gap.items (between_gaps s.attachment.attached gap.is_first gap.previous));
    })
    (ap length (append-nil s.attachment.attached))
    ∙ ap (λ a. record (counted gap.items s (length s.attachment.attached)) { attachment = a })
    (gap_is_attached gap s.attachment.attached)

-- So the next gap may be read from high on.
pub held_after_gap : (low high : ℕ) (gap : Gap) (s : Trivia) → BeforeGap low high gap s
    → HeldBefore high (after_gap gap s)
held_after_gap low high gap s h =
    subst (λ t. HeldBefore high t) (calls_for_gap low high gap s h)
    (held_after_token high gap.token (calls gap.items s) (held_after_calls low high gap.items s h.held h.ascends))
