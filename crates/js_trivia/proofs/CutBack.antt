-- Going back to lengths.
use Rattle.std.proofs.Common.{◌≡◌, ℕ, List, [], ◌++◌, length, take, refl, sym, ◌∙◌, ap, arith, append-nil, append_assoc}
use Rattle.std.proofs.lemmas.List.{take-append-le, take_all}
use Rattle.js_text.specs.declared.comment.Comment.{Comment}
use Rattle.js_text.specs.declared.span.Span.{Span}
use Rattle.js_grammar.specs.GapItems.{Gap, irregular_of}
use Rattle.js_grammar.specs.Attach.{attach}
use Rattle.js_trivia.specs.Trivia.{Trivia, held, lengths_of, cut_to, BeforeGap, after_gap, GrewFrom}

take_front : {X : Type 0} (xs ys : List X) → take (length xs) (xs ++ ys) ≡ xs
take_front xs ys = take-append-le (length xs) xs ys (omega arith) ∙ take_all (length xs) xs (omega arith)

abbrev parts : (s : Trivia) → List Comment → List Comment → List Span → Trivia
parts s attached pending spans =
    record s {
      attachment = record s.attachment { attached = attached; pending = pending };
      irregular_whitespaces =
          spans;
    }

pub cut_back_restores : (s now : Trivia) → s.attachment.pending ≡ [] → GrewFrom s now → cut_to (lengths_of s) now ≡ s
cut_back_restores s now none grew =
    let front : held now.attachment ≡ s.attachment.attached ++ grew.comments =
    grew.held_now ∙ ap (λ cs. (s.attachment.attached ++ cs) ++ grew.comments) none
    ∙ ap (λ cs. cs ++ grew.comments) (append-nil s.attachment.attached) in
    ap (λ cs. parts s (take (length s.attachment.attached) cs) []
    (take (length s.irregular_whitespaces) now.irregular_whitespaces)) front
    ∙ ap (λ cs. parts s cs [] (take (length s.irregular_whitespaces) now.irregular_whitespaces))
    (take_front s.attachment.attached grew.comments)
    ∙ ap (λ cs. parts s s.attachment.attached cs (take (length s.irregular_whitespaces) now.irregular_whitespaces))
    (sym none)
    ∙ ap (λ spans. parts s s.attachment.attached s.attachment.pending (take (length s.irregular_whitespaces) spans))
    grew.irregular_now
    ∙ ap (λ spans. parts s s.attachment.attached s.attachment.pending spans)
    (take_front s.irregular_whitespaces grew.spans)

pub grew_after_gap : (low high : ℕ) (gap : Gap) (s : Trivia) → BeforeGap low high gap s → GrewFrom s (after_gap gap s)
grew_after_gap low high gap s h = record {
  comments = attach gap;
  spans = irregular_of gap.items;
  held_now =
      append-nil (s.attachment.attached ++ attach gap)
      ∙ ap (λ cs. cs ++ attach gap) (sym (append-nil s.attachment.attached))
      ∙ ap (λ cs. (s.attachment.attached ++ cs) ++ attach gap) (sym (ap (λ a. a.pending) h.attachment));
  irregular_now = refl;
}

pub grew_on : (s then now : Trivia) → GrewFrom s then → GrewFrom then now → GrewFrom s now
grew_on s then now first second = record {
  comments = first.comments ++ second.comments;
  spans = first.spans ++ second.spans;
  held_now = second.held_now ∙ ap (λ cs. cs ++ second.comments) first.held_now
      ∙ append_assoc (held s.attachment) first.comments second.comments;
  irregular_now = second.irregular_now ∙ ap (λ xs. xs ++ second.spans) first.irregular_now
      ∙ append_assoc s.irregular_whitespaces first.spans second.spans;
}

-- Where the comments that were held have other classes by now, they keep them.
pub cut_back_keeps_marks : (s now : Trivia) (older more : List Comment) (spans : List Span)
    → held now.attachment ≡ older ++ more → length older ≡ length s.attachment.attached
    → now.irregular_whitespaces ≡ s.irregular_whitespaces ++ spans
    → cut_to (lengths_of s) now ≡ record s { attachment = record s.attachment { attached = older; pending = [] } }
cut_back_keeps_marks s now older more spans held_now count irregular_now =
    let front : take (length s.attachment.attached) (held now.attachment) ≡ older =
    ap (take (length s.attachment.attached)) held_now
    ∙ ap (λ n. take n (older ++ more)) (sym count)
    ∙ take_front older more in
    let irregular : take (length s.irregular_whitespaces) now.irregular_whitespaces ≡ s.irregular_whitespaces =
    ap (take (length s.irregular_whitespaces)) irregular_now ∙ take_front s.irregular_whitespaces spans in
    ap (λ cs. parts s cs [] (take (length s.irregular_whitespaces) now.irregular_whitespaces)) front
    ∙ ap (parts s older []) irregular
