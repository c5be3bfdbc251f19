-- The calls for a gap attach its comments as the definition says.
use Rattle.std.proofs.Common.{◌≡◌, Bool, true, false, List, [], ◌∷◌, ◌++◌, map, refl, sym, ◌∙◌, ap, inl, inr}
use Rattle.std.proofs.Common.{append-nil, append_assoc}
use Rattle.std.specs.Prelude.{not, ◌&&◌}
use Rattle.std.proofs.lemmas.List.{map-append}
use Rattle.js_text.specs.declared.comment.Comment.{Comment}
use Rattle.js_grammar.specs.TokensAround.{keeps_line_comment_leading}
use Rattle.js_grammar.specs.GapItems.{Found, Item, irregular, line_end, comment, Gap}
use Rattle.js_grammar.specs.CommentClasses.{stays_leading}
use Rattle.js_text.specs.Comment.{is_line_kind}
use Rattle.js_grammar.specs.Attach.{front_trails, attach}
use Rattle.js_trivia.specs.Attachment.{mark_last_followed, last_may_trail, waiting, trail_pending_if, after_token}
use Rattle.js_trivia.specs.Attachment.{after_items, between_gaps}
use Rattle.js_trivia.proofs.Walk.{walked, walk, front_at, attach_walks}
use Rattle.js_trivia.proofs.Front.{bool_cases, trails_from, front_trails_walks}
use Rattle.js_trivia.proofs.Steps.{state, line_end_next, mark_if, mark_one_if, mark_if_push, mark_if_marked}
use Rattle.js_trivia.proofs.Steps.{mark_if_none, last_may_trail_push, placed, placed_waiting, after_comment_waits}
use Rattle.js_trivia.proofs.Steps.{after_line_comment, after_block_comment}

-- one more comment that waits, and then the walk
next_waits : (gap : Gap) (att ps : List Comment) (front n : Bool) (found : Found) (xs : List Item) (rest : List Comment)
    → att ++ map (placed gap front) (mark_if (line_end_next xs) (ps ++ waiting found n ∷ [])) ++ rest
    ≡ att ++ map (placed gap front) ps ++ (walked gap front n found xs ∷ rest)
next_waits gap att ps front n found xs rest =
    ap (λ cs. att ++ map (placed gap front) cs ++ rest) (mark_if_push (line_end_next xs) ps (waiting found n))
    ∙ ap (λ cs. att ++ cs ++ rest)
    (map-append (placed gap front) ps (mark_one_if (line_end_next xs) (waiting found n) ∷ []))
    ∙ ap (λ c. att ++ (map (placed gap front) ps ++ c ∷ []) ++ rest) (placed_waiting gap front n found xs)
    ∙ simp append_assoc

-- after the first newline event
later : (gap : Gap) (att ps : List Comment) (n : Bool) (xs : List Item)
    → after_token gap.token (after_items xs (state att ps true n gap.previous))
    ≡ between_gaps (att ++ map (placed gap false) (mark_if (line_end_next xs) ps) ++ walk gap false n xs) false
    gap.token
later gap att ps n [] = ap (λ cs. between_gaps cs false gap.token) (sym (append-nil _))
later gap att ps n (irregular span ∷ xs) = later gap att ps n xs
later gap att ps n (line_end ∷ xs) =
    later gap att (mark_last_followed ps) true xs
    ∙ ap (λ qs. between_gaps (att ++ map (placed gap false) qs ++ walk gap false true xs) false gap.token)
    (mark_if_marked (line_end_next xs) ps)
later gap att ps n (comment found ∷ xs) =
    ap (λ s. after_token gap.token (after_items xs s)) (after_comment_waits att ps n gap.previous found)
    ∙ later gap att (ps ++ waiting found n ∷ []) (is_line_kind found.kind) xs
    ∙ ap (λ cs. between_gaps cs false gap.token)
    (next_waits gap att ps false n found xs (walk gap false (is_line_kind found.kind) xs))

-- the comments that wait at the first newline event, the last of them followed by a line end, trail or wait on
decided : (gap : Gap) (front : Bool) (att ps : List Comment) (n : Bool) (xs : List Item)
    → mark_if (line_end_next xs) ps ≡ ps
    → after_token gap.token (after_items xs (trail_pending_if front (state att ps true n gap.previous)))
    ≡ between_gaps (att ++ map (placed gap front) ps ++ walk gap false n xs) false gap.token
decided gap true att ps n xs marked =
    later gap (att ++ map (placed gap true) ps) [] n xs
    ∙ ap (λ qs. between_gaps ((att ++ map (placed gap true) ps) ++ map (placed gap false) qs ++ walk gap false n xs)
    false gap.token) (mark_if_none (line_end_next xs))
    ∙ ap (λ cs. between_gaps (cs ++ walk gap false n xs) false gap.token) (append-nil _)
decided gap false att ps n xs marked =
    later gap att ps n xs
    ∙ ap (λ qs. between_gaps (att ++ map (placed gap false) qs ++ walk gap false n xs) false gap.token) marked

and_false : (b : Bool) → (b && false) ≡ false
and_false true = refl
and_false false = refl

and_true : (b : Bool) → (b && true) ≡ b
and_true true = refl
and_true false = refl

marked_line : (b : Bool) (found : Found) (n : Bool) → is_line_kind found.kind ≡ true
    → mark_one_if b (waiting found n) ≡ waiting found n
marked_line true found n h = ap (λ f. record (waiting found n) { followed = f }) (sym h)
marked_line false found n h = refl

-- the walk goes on with front as the walk itself has it
walks_on : (gap : Gap) (att ps : List Comment) (front next n : Bool) (found : Found) (xs : List Item)
    (rest : List Comment)
    → front ≡ next → rest ≡ walk gap (next && not (is_line_kind found.kind)) (is_line_kind found.kind) xs
    → between_gaps (att ++ map (placed gap front) ps ++ (walked gap front n found xs ∷ rest)) false gap.token
    ≡ between_gaps (att ++ map (placed gap next) ps ++ walk gap next n (comment found ∷ xs)) false gap.token
walks_on gap att ps front next n found xs rest same goes_on =
    ap (λ f. between_gaps (att ++ map (placed gap f) ps ++ (walked gap f n found xs ∷ rest)) false gap.token) same
    ∙ ap (λ cs. between_gaps (att ++ map (placed gap next) ps ++ (walked gap next n found xs ∷ cs)) false gap.token)
    goes_on

-- before the first newline event
sooner : (gap : Gap) (att ps : List Comment) (n : Bool) (xs : List Item)
    → let front = trails_from (last_may_trail ps) gap.previous.kind xs in
    after_token gap.token (after_items xs (state att ps false n gap.previous))
    ≡ between_gaps (att ++ map (placed gap front) (mark_if (line_end_next xs) ps) ++ walk gap front n xs) false
    gap.token
sooner gap att ps n [] = ap (λ cs. between_gaps cs false gap.token) (sym (append-nil _))
sooner gap att ps n (irregular span ∷ xs) = sooner gap att ps n xs
sooner gap att ps n (line_end ∷ xs) =
    decided gap (last_may_trail ps) att (mark_last_followed ps) true xs (mark_if_marked (line_end_next xs) ps)
sooner gap att ps n (comment found ∷ xs) =
    let next = trails_from (last_may_trail ps) gap.previous.kind (comment found ∷ xs) in
    elim (bool_cases (is_line_kind found.kind)) [
      | inl h ↦
          let front = not (keeps_line_comment_leading gap.previous.kind) && not (stays_leading found.content) in
          let marked : mark_if (line_end_next xs) (ps ++ waiting found n ∷ []) ≡ ps ++ waiting found n ∷ [] =
          mark_if_push (line_end_next xs) ps (waiting found n)
          ∙ ap (λ c. ps ++ c ∷ []) (marked_line (line_end_next xs) found n h) in
          ap (λ s. after_token gap.token (after_items xs s)) (after_line_comment att ps n gap.previous found h)
          ∙ decided gap front att (ps ++ waiting found n ∷ []) true xs marked
          ∙ ap (λ cs. between_gaps (att ++ map (placed gap front) cs ++ walk gap false true xs) false gap.token)
          (sym marked)
          ∙ ap (λ cs. between_gaps cs false gap.token) (next_waits gap att ps front n found xs (walk gap false true xs))
          ∙ walks_on gap att ps front next n found xs (walk gap false true xs) (rw h refl)
          (rw h (ap (λ f. walk gap f true xs) (sym (and_false front))))
      | inr h ↦
          let front = trails_from (not (stays_leading found.content)) gap.previous.kind xs in
          ap (λ s. after_token gap.token (after_items xs s)) (after_block_comment att ps n gap.previous found h)
          ∙ sooner gap att (ps ++ waiting found n ∷ []) false xs
          ∙ ap (λ r. let f = trails_from r gap.previous.kind xs in between_gaps
          (att ++ map (placed gap f) (mark_if (line_end_next xs) (ps ++ waiting found n ∷ []))
          ++ walk gap f false xs) false gap.token)
          (last_may_trail_push ps (waiting found n))
          ∙ ap (λ cs. between_gaps cs false gap.token)
          (next_waits gap att ps front n found xs (walk gap front false xs))
          ∙ walks_on gap att ps front next n found xs (walk gap front false xs) (rw h refl)
          (rw h (ap (λ f. walk gap f false xs) (sym (and_true front))))
    ]

front_at_start : (gap : Gap) → front_at gap [] ≡ (not gap.is_first && trails_from false gap.previous.kind gap.items)
front_at_start gap = and_true (front_trails gap) ∙ front_trails_walks gap

-- the calls for a gap, by whether it is the first
first_gap : (gap : Gap) (att : List Comment) (is_first : Bool)
    → after_token gap.token (after_items gap.items (between_gaps att is_first gap.previous))
    ≡ between_gaps (att ++ walk gap (not is_first && trails_from false gap.previous.kind gap.items) is_first
    gap.items) false gap.token
first_gap gap att true =
    later gap att [] true gap.items
    ∙ ap (λ qs. between_gaps (att ++ map (placed gap false) qs ++ walk gap false true gap.items) false gap.token)
    (mark_if_none (line_end_next gap.items))
    ∙ ap (λ cs. between_gaps (cs ++ walk gap false true gap.items) false gap.token) (append-nil att)
first_gap gap att false =
    let front = trails_from false gap.previous.kind gap.items in
    sooner gap att [] false gap.items
    ∙ ap (λ qs. between_gaps (att ++ map (placed gap front) qs ++ walk gap front false gap.items) false gap.token)
    (mark_if_none (line_end_next gap.items))
    ∙ ap (λ cs. between_gaps (cs ++ walk gap front false gap.items) false gap.token) (append-nil att)

-- The law: the calls for a gap add its comments, attached as the definition says, to those that stood before.
pub gap_is_attached : (gap : Gap) (att : List Comment)
    → after_token gap.token (after_items gap.items (between_gaps att gap.is_first gap.previous))
    ≡ between_gaps (att ++ attach gap) false gap.token
gap_is_attached gap att =
    first_gap gap att gap.is_first
    ∙ ap (λ f. between_gaps (att ++ walk gap f gap.is_first gap.items) false gap.token) (sym (front_at_start gap))
    ∙ ap (λ p. between_gaps (att ++ walk gap (front_at gap []) p gap.items) false gap.token)
    (sym (and_true gap.is_first))
    ∙ ap (λ cs. between_gaps (att ++ cs) false gap.token) (sym (attach_walks gap [] gap.items))
