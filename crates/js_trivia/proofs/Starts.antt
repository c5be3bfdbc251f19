-- Where comments start is not changed by attaching them.
use Rattle.std.proofs.Common.{◌≡◌, ℕ, zero, suc, ◌+◌, ◌-◌, ◌≤◌, ◌<◌, ◌^◌, Bool, true, false, List, [], ◌∷◌, ◌++◌, map}
use Rattle.std.proofs.Common.{length, take, drop, refl, sym, ◌∙◌, ap, subst, arith, length-append, length-drop}
use Rattle.std.proofs.Common.{length-take, append-nil, append_assoc}
use Rattle.std.specs.Prelude.{nat_lt, not, ◌&&◌, eqb, cond, Some}
use Rattle.std.specs.List.{position_from}
use Rattle.std.proofs.lemmas.List.{map-append, take-append-drop, drop_all, take_all}
use borrow.Rule.Slice.PartMut.{put_mid, mid_of}
use Rattle.std.proofs.lemmas.Bool.Decides.{nat_tests}
use Rattle.js_text.specs.declared.comment.CommentPosition.{CommentPosition}
use Rattle.js_text.specs.declared.comment.CommentPosition.TheVariants.{Trailing}
use Rattle.js_text.specs.declared.comment.Comment.{Comment}
use Rattle.js_kind.specs.TokenParts.{TokenParts}
use Rattle.js_text.specs.declared.span.Span.{Span}
use Rattle.js_grammar.specs.GapItems.{Found}
use Rattle.js_grammar.specs.CommentClasses.{stays_leading}
use Rattle.js_grammar.specs.Attach.{trails_alone}
use Rattle.js_trivia.specs.Attachment.{Attachment, attach_to, attach_by, attach_alone, after_token, mark_last_followed}
use Rattle.js_trivia.specs.Attachment.{waiting, push_waiting, last_may_trail, line_comment_trails, trail_pending_if}
use Rattle.js_trivia.specs.Attachment.{after_comment, after_newline}
use Rattle.js_trivia.specs.Builder.{IsInOrder}
use Rattle.js_trivia.specs.Trivia.{held, span_starts, comment_starts, is_past, is_span, AscendFrom}

pub starts_attached : (position : CommentPosition) (place : ℕ) (cs : List Comment)
    → comment_starts (map (attach_to position place) cs) ≡ comment_starts cs
starts_attached position place [] = refl
starts_attached position place (c ∷ cs) = ap (λ ss. c.span.start ∷ ss) (starts_attached position place cs)

pub starts_marked : (cs : List Comment) → comment_starts (mark_last_followed cs) ≡ comment_starts cs
starts_marked [] = refl
starts_marked (c ∷ []) = refl
starts_marked (c ∷ d ∷ cs) = ap (λ ss. c.span.start ∷ ss) (starts_marked (d ∷ cs))

starts_held : (a : Attachment) → comment_starts (held a) ≡ comment_starts a.attached ++ comment_starts a.pending
starts_held a = map-append (λ (c : Comment). c.span.start) a.attached a.pending

starts_trailing : (b : Bool) (a : Attachment) → comment_starts (held (trail_pending_if b a)) ≡ comment_starts (held a)
starts_trailing true a =
    ap comment_starts (append-nil (a.attached ++ map (attach_to Trailing a.previous.end) a.pending))
    ∙ map-append (λ (c : Comment). c.span.start) a.attached (map (attach_to Trailing a.previous.end) a.pending)
    ∙ ap (λ ss. comment_starts a.attached ++ ss) (starts_attached Trailing a.previous.end a.pending)
    ∙ sym (starts_held a)
starts_trailing false a = refl

pub starts_after_comment : (found : Found) (a : Attachment) → comment_starts (held (after_comment found a))
    ≡ comment_starts (held a) ++ found.span.start ∷ []
starts_after_comment found a =
    starts_trailing (line_comment_trails found a) (push_waiting found a)
    ∙ ap comment_starts (sym (append_assoc a.attached a.pending (waiting found a.saw_newline_for_comment ∷ [])))
    ∙ map-append (λ (c : Comment). c.span.start) (held a) (waiting found a.saw_newline_for_comment ∷ [])

pub starts_after_newline : (a : Attachment) → comment_starts (held (after_newline a)) ≡ comment_starts (held a)
starts_after_newline a =
    starts_trailing (not a.saw_newline && last_may_trail a.pending)
    (record a { pending = mark_last_followed a.pending; saw_newline = true; saw_newline_for_comment = true })
    ∙ map-append (λ (c : Comment). c.span.start) a.attached (mark_last_followed a.pending)
    ∙ ap (λ ss. comment_starts a.attached ++ ss) (starts_marked a.pending)
    ∙ sym (starts_held a)

starts_attached_by : (trails : Bool) (end start : ℕ) (c : Comment) → (attach_by trails end start c).span.start
    ≡ c.span.start
starts_attached_by true end start c = refl
starts_attached_by false end start c = refl

pub starts_attached_alone : (previous token : TokenParts) (cs : List Comment)
    → comment_starts (map (attach_alone previous token) cs) ≡ comment_starts cs
starts_attached_alone previous token [] = refl
starts_attached_alone previous token (c ∷ cs) =
    ap (λ s. s ∷ comment_starts (map (attach_alone previous token) cs))
    (starts_attached_by (trails_alone previous token c.preceded (stays_leading c.content)) previous.end
    token.start c)
    ∙ ap (λ ss. c.span.start ∷ ss) (starts_attached_alone previous token cs)

pub starts_after_token : (token : TokenParts) (a : Attachment) → comment_starts (held (after_token token a))
    ≡ comment_starts (held a)
starts_after_token token a =
    ap comment_starts (append-nil (a.attached ++ map (attach_alone a.previous token) a.pending))
    ∙ map-append (λ (c : Comment). c.span.start) a.attached (map (attach_alone a.previous token) a.pending)
    ∙ ap (λ ss. comment_starts a.attached ++ ss) (starts_attached_alone a.previous token a.pending)
    ∙ sym (starts_held a)

length_starts : (cs : List Comment) → length (comment_starts cs) ≡ length cs
length_starts [] = refl
length_starts (c ∷ cs) = ap suc (length_starts cs)

pub length_after_comment : (found : Found) (a : Attachment) → length (held (after_comment found a))
    ≡ length (held a) + 1
length_after_comment found a =
    sym (length_starts (held (after_comment found a)))
    ∙ ap length (starts_after_comment found a)
    ∙ length-append (comment_starts (held a)) (found.span.start ∷ [])
    ∙ ap (λ n. n + 1) (length_starts (held a))

pub length_after_newline : (a : Attachment) → length (held (after_newline a)) ≡ length (held a)
length_after_newline a =
    sym (length_starts (held (after_newline a))) ∙ ap length (starts_after_newline a) ∙ length_starts (held a)

lt_more : (s m n : ℕ) → nat_lt s m ≡ true → m ≤ n → nat_lt s n ≡ true
lt_more s m n h le = grind (arith, nat_tests)

lt_suc : (n : ℕ) → nat_lt n (n + 1) ≡ true
lt_suc n = grind (arith, nat_tests)

pub is_past_more : (m n : ℕ) (ss : List ℕ) → is_past m ss ≡ true → m ≤ n → is_past n ss ≡ true
is_past_more m n [] h le = refl
is_past_more m n (s ∷ []) h le = lt_more s m n h le
is_past_more m n (s ∷ t ∷ ss) h le = is_past_more m n (t ∷ ss) h le

pub is_past_push : (n : ℕ) (ss : List ℕ) → is_past (n + 1) (ss ++ n ∷ []) ≡ true
is_past_push n [] = lt_suc n
is_past_push n (s ∷ []) = lt_suc n
is_past_push n (s ∷ t ∷ ss) = is_past_push n (t ∷ ss)

-- a list whose later part has other comments that start where the old ones did
pub starts_put : (n : ℕ) (cs ds : List Comment) → comment_starts ds ≡ comment_starts (drop n cs)
    → comment_starts (take n cs ++ ds) ≡ comment_starts cs
starts_put n cs ds same =
    map-append (λ (c : Comment). c.span.start) (take n cs) ds
    ∙ ap (λ ss. comment_starts (take n cs) ++ ss) same
    ∙ sym (map-append (λ (c : Comment). c.span.start) (take n cs) (drop n cs))
    ∙ ap comment_starts (take-append-drop n cs)

take_map : {X : Type 0} (f : X → ℕ) (n : ℕ) (xs : List X) → map f (take n xs) ≡ take n (map f xs)
take_map f zero xs = refl
take_map f (suc n) [] = refl
take_map f (suc n) (x ∷ xs) = ap (λ ys. f x ∷ ys) (take_map f n xs)

ascend_take : (low n : ℕ) (ss : List ℕ) → AscendFrom low ss → AscendFrom low (take n ss)
ascend_take low zero ss h = tt
ascend_take low (suc n) [] h = tt
ascend_take low (suc n) (s ∷ ss) h = (h.0, h.1, ascend_take (s + 1) n ss h.2)

past_head : (s n : ℕ) → nat_lt s n ≡ true → s + 1 ≤ n
past_head s n h = grind (arith, nat_tests)

-- what ascends from low and ends before n
below : (low n : ℕ) (ss : List ℕ) → AscendFrom low ss → is_past n ss ≡ true → 1 ≤ length ss → length ss + low ≤ n
below low n [] h past one = absurd (omega arith)
below low n (s ∷ []) h past one = let le : s + 1 ≤ n = past_head s n past in let l : low ≤ s = h.0 in omega arith
below low n (s ∷ t ∷ ss) h past one =
    let le : length (t ∷ ss) + (s + 1) ≤ n = below (s + 1) n (t ∷ ss) h.2 past (omega arith) in
    let l : low ≤ s = h.0 in
    omega arith

ascend_push : (low n : ℕ) (ss : List ℕ) → AscendFrom low ss → is_past n ss ≡ true → low ≤ n → n + 1 < 2 ^ 32
    → AscendFrom low (ss ++ n ∷ [])
ascend_push low n [] h past le bound = (le, bound, tt)
ascend_push low n (s ∷ []) h past le bound = (h.0, h.1, (past_head s n past, bound, tt))
ascend_push low n (s ∷ t ∷ ss) h past le bound =
    let more : length (t ∷ ss) + (s + 1) ≤ n = below (s + 1) n (t ∷ ss) h.2 past (omega arith) in
    (h.0, h.1, ascend_push (s + 1) n (t ∷ ss) h.2 past (omega arith) bound)

count_from : (low : ℕ) (ss : List ℕ) → AscendFrom low ss → low < 2 ^ 32 → length ss + low < 2 ^ 32
count_from low [] h le = omega arith
count_from low (s ∷ ss) h le =
    let l : low ≤ s = h.0 in
    let rest : length ss + (s + 1) < 2 ^ 32 = count_from (s + 1) ss h.2 h.1 in
    omega arith

length_map : {X : Type 0} (f : X → ℕ) (xs : List X) → length (map f xs) ≡ length xs
length_map f [] = refl
length_map f (x ∷ xs) = ap suc (length_map f xs)

-- a list in order is no longer than the places
pub count_fits : {X : Type 0} (f : X → ℕ) (xs : List X) → AscendFrom 0 (map f xs) → length xs < 2 ^ 32
count_fits f xs h =
    let le : length (map f xs) + 0 < 2 ^ 32 = count_from 0 (map f xs) h (omega arith) in
    let same : length (map f xs) ≡ length xs = length_map f xs in
    omega arith

count_past : (n : ℕ) (ss : List ℕ) → AscendFrom 0 ss → is_past n ss ≡ true → length ss ≤ n
count_past n [] h past = omega arith
count_past n (s ∷ ss) h past = let le : length (s ∷ ss) + 0 ≤ n = below 0 n (s ∷ ss) h past (omega arith) in omega arith

-- as many comments as start before n
pub count_below : (n : ℕ) (cs : List Comment) → AscendFrom 0 (comment_starts cs) → is_past n (comment_starts cs)
    ≡ true → length cs ≤ n
count_below n cs h past =
    let le : length (comment_starts cs) ≤ n = count_past n (comment_starts cs) h past in
    let same : length (comment_starts cs) ≡ length cs = length_starts cs in
    omega arith

-- the same, as a write to the later part leaves it
pub starts_put_mid : (n : ℕ) (cs ds : List Comment) → n ≤ length cs → comment_starts ds
    ≡ comment_starts (mid_of n (length cs - n) cs)
    → comment_starts (put_mid n (length cs - n) cs ds) ≡ comment_starts cs
starts_put_mid n cs ds le same =
    let len : length (drop n cs) ≤ length cs - n = omega (arith, length-drop n cs) in
    let rest : drop (length cs - n) (drop n cs) ≡ [] = drop_all (length cs - n) (drop n cs) len in
    let whole : take (length cs - n) (drop n cs) ≡ drop n cs = take_all (length cs - n) (drop n cs) len in
    ap (λ es. comment_starts (take n cs ++ (ds ++ es))) rest
    ∙ ap (λ es. comment_starts (take n cs ++ es)) (append-nil ds)
    ∙ starts_put n cs ds (same ∙ ap comment_starts whole)

pub cut_in_order : (n m p : ℕ) (cs : List Comment) (spans : List Span) → IsInOrder p cs spans
    → n ≤ length (take p cs ++ drop p cs)
    → IsInOrder n (take n cs) (take m spans)
cut_in_order n m p cs spans h le =
    let whole : length (take p cs ++ drop p cs) ≡ length cs = ap length (take-append-drop p cs) in
    record {
      within = omega (arith, length-take n cs);
      comments_ascend = subst (λ ss. AscendFrom 0 ss) (sym (take_map (λ (c : Comment). c.span.start) n cs))
          (ascend_take 0 n (comment_starts cs) h.comments_ascend);
      spans_ascend = subst (λ ss. AscendFrom 0 ss) (sym (take_map (λ (x : Span). x.start) m spans))
          (ascend_take 0 m (span_starts spans) h.spans_ascend);
    }

pub push_in_order : (p : ℕ) (cs new : List Comment) (spans : List Span) (c : Comment) → IsInOrder p cs spans
    → is_past c.span.start (comment_starts (take p cs ++ drop p cs)) ≡ true → c.span.start + 1 < 2 ^ 32 → new
    ≡ cs ++ c ∷ [] → IsInOrder p new spans
push_in_order p cs new spans c h past bound pushed =
    let starts : comment_starts (cs ++ c ∷ []) ≡ comment_starts cs ++ c.span.start ∷ [] =
    map-append (λ (x : Comment). x.span.start) cs (c ∷ []) in
    let last : is_past c.span.start (comment_starts cs) ≡ true =
    ap (λ xs. is_past c.span.start (comment_starts xs)) (sym (take-append-drop p cs)) ∙ past in
    let within : p ≤ length cs = h.within in
    subst (λ xs. IsInOrder p xs spans) (sym pushed)
    (record {
      within = omega (arith, length-append cs (c ∷ []));
      comments_ascend = subst (λ ss. AscendFrom 0 ss) (sym starts)
          (ascend_push 0 c.span.start (comment_starts cs) h.comments_ascend last (omega arith) bound);
      spans_ascend = h.spans_ascend;
    })

pub push_span_in_order : (p : ℕ) (cs : List Comment) (spans new : List Span) (span : Span) → IsInOrder p cs spans
    → is_past span.start (span_starts spans) ≡ true → span.start + 1 < 2 ^ 32 → new ≡ spans ++ span ∷ []
    → IsInOrder p cs new
push_span_in_order p cs spans new span h past bound pushed =
    let starts : span_starts (spans ++ span ∷ []) ≡ span_starts spans ++ span.start ∷ [] =
    map-append (λ (x : Span). x.start) spans (span ∷ []) in
    subst (λ xs. IsInOrder p cs xs) (sym pushed)
    (record {
      within = h.within;
      comments_ascend = h.comments_ascend;
      spans_ascend = subst (λ ss. AscendFrom 0 ss) (sym starts)
          (ascend_push 0 span.start (span_starts spans) h.spans_ascend past (omega arith) bound);
    })

and_left : (a b : Bool) → (a && b) ≡ true → a ≡ true
and_left true b h = refl
and_left false b h = cc

eqb_same : (m n : ℕ) → eqb m n ≡ true → m ≡ n
eqb_same m n h = grind (arith, nat_tests)

position_step : (b : Bool) (k i start end low : ℕ) (c : Comment) (cs : List Comment) → is_span start end c ≡ b
    → k ≤ low → low ≤ c.span.start
    → cond b (Some k) (position_from (is_span start end) (k + 1) cs) ≡ Some i
    → (position_from (is_span start end) (k + 1) cs ≡ Some i → i ≤ start) → i ≤ start
position_step true k i start end low c cs test le at e rest =
    let same : k ≡ i = cc in
    let starts : c.span.start ≡ start =
    eqb_same c.span.start start (and_left (eqb c.span.start start) (eqb c.span.end end) test) in
    omega arith
position_step false k i start end low c cs test le at e rest = rest e

-- a comment that is held at an index starts there or later
pub position_bound : (k i start end low : ℕ) (cs : List Comment) → k ≤ low → AscendFrom low (comment_starts cs)
    → position_from (is_span start end) k cs ≡ Some i → i ≤ start
position_bound k i start end low [] le h e = absurd cc
position_bound k i start end low (c ∷ cs) le h e =
    let at : low ≤ c.span.start = h.0 in
    position_step (is_span start end c) k i start end low c cs refl le at e
    (position_bound (k + 1) i start end (c.span.start + 1) cs (omega arith) h.2)
