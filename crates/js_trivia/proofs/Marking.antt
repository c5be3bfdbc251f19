-- Where comments start is not changed by marking them.
use Rattle.std.proofs.Common.{◌≡◌, ℕ, List, [], ◌∷◌, ◌++◌, map, take, drop, refl, sym, ◌∙◌, ap}
use Rattle.std.proofs.lemmas.List.{map-append, take-append-drop}
use borrow.Rule.Slice.PartMut.{put_mid, mid_of}
use Rattle.js_text.specs.declared.comment.Comment.{Comment}
use Rattle.js_text.specs.declared.comment.CommentContent.{CommentContent}
use Rattle.js_trivia.specs.Marks.{mark}
use Rattle.js_trivia.specs.Trivia.{comment_starts}

pub starts_of_marked : (applied : CommentContent → CommentContent) (cs : List Comment)
    → comment_starts (map (mark applied) cs) ≡ comment_starts cs
starts_of_marked applied [] = refl
starts_of_marked applied (c ∷ cs) = ap (λ ss. c.span.start ∷ ss) (starts_of_marked applied cs)

-- A write to a part that leaves its starts leaves all.
pub starts_put_part : (n count : ℕ) (cs ds : List Comment) → comment_starts ds ≡ comment_starts (mid_of n count cs)
    → comment_starts (put_mid n count cs ds) ≡ comment_starts cs
starts_put_part n count cs ds same =
    let start : Comment → ℕ = λ c. c.span.start in
    let front = take n cs in
    let part = take count (drop n cs) in
    let rest = drop count (drop n cs) in
    map-append start front (ds ++ rest)
    ∙ ap (λ ss. comment_starts front ++ ss)
    (map-append start ds rest
    ∙ ap (λ ss. ss ++ comment_starts rest) same
    ∙ sym (map-append start part rest))
    ∙ sym (map-append start front (part ++ rest))
    ∙ ap (λ es. comment_starts (front ++ es)) (take-append-drop count (drop n cs))
    ∙ ap comment_starts (take-append-drop n cs)
