-- What the calls for one piece make of the comments that wait.
use Rattle.std.proofs.Common.{◌≡◌, ℕ, Bool, true, false, List, [], ◌∷◌, ◌++◌, refl, sym, ◌∙◌, ap, inl, inr}
use Rattle.std.specs.Prelude.{not, ◌&&◌, ◌||◌, if◌then◌else◌}
use Rattle.js_kind.specs.TokenParts.{TokenParts}
use Rattle.js_text.specs.declared.comment.CommentPosition.TheVariants.{Leading, Trailing}
use Rattle.js_text.specs.declared.comment.Comment.{Comment}
use Rattle.js_grammar.specs.TokensAround.{keeps_line_comment_leading}
use Rattle.js_grammar.specs.GapItems.{Found, Item, Gap, begins_with_line_end, skip_irregular}
use Rattle.js_grammar.specs.CommentClasses.{stays_leading}
use Rattle.js_text.specs.Comment.{is_line_kind}
use Rattle.js_grammar.specs.Attach.{is_followed, trails_alone}
use Rattle.js_trivia.specs.Attachment.{Attachment, attach_to, mark_followed, mark_last_followed, last_may_trail}
use Rattle.js_trivia.specs.Attachment.{waiting, trail_pending_if, attach_alone, after_comment}
use Rattle.js_trivia.proofs.Walk.{walked}
use Rattle.js_trivia.proofs.Front.{bool_cases}

abbrev pub state : List Comment → List Comment → Bool → Bool → TokenParts → Attachment
state attached pending saw_newline saw_newline_for_comment previous = record {
  attached = attached;
  pending = pending;
  saw_newline = saw_newline;
  saw_newline_for_comment = saw_newline_for_comment;
  previous = previous;
}

-- a line end is next, white space apart
abbrev pub line_end_next : List Item → Bool
line_end_next xs = begins_with_line_end (skip_irregular xs)

abbrev pub mark_if : Bool → List Comment → List Comment
mark_if true cs = mark_last_followed cs
mark_if false cs = cs

abbrev pub mark_one_if : Bool → Comment → Comment
mark_one_if true c = mark_followed c
mark_one_if false c = c

mark_last_push : (cs : List Comment) (c : Comment) → mark_last_followed (cs ++ c ∷ []) ≡ cs ++ mark_followed c ∷ []
mark_last_push [] c = refl
mark_last_push (a ∷ []) c = refl
mark_last_push (a ∷ b ∷ cs) c = ap (λ ds. a ∷ ds) (mark_last_push (b ∷ cs) c)

pub mark_if_push : (b : Bool) (cs : List Comment) (c : Comment) → mark_if b (cs ++ c ∷ []) ≡ cs ++ mark_one_if b c ∷ []
mark_if_push true cs c = mark_last_push cs c
mark_if_push false cs c = refl

mark_last_twice : (cs : List Comment) → mark_last_followed (mark_last_followed cs) ≡ mark_last_followed cs
mark_last_twice [] = refl
mark_last_twice (a ∷ []) = refl
mark_last_twice (a ∷ b ∷ []) = refl
mark_last_twice (a ∷ b ∷ c ∷ cs) = ap (λ ds. a ∷ ds) (mark_last_twice (b ∷ c ∷ cs))

pub mark_if_marked : (b : Bool) (cs : List Comment) → mark_if b (mark_last_followed cs) ≡ mark_last_followed cs
mark_if_marked true cs = mark_last_twice cs
mark_if_marked false cs = refl

pub mark_if_none : (b : Bool) → mark_if b [] ≡ []
mark_if_none true = refl
mark_if_none false = refl

pub last_may_trail_push : (cs : List Comment) (c : Comment) → last_may_trail (cs ++ c ∷ [])
    ≡ not (stays_leading c.content)
last_may_trail_push [] c = refl
last_may_trail_push (a ∷ []) c = refl
last_may_trail_push (a ∷ b ∷ cs) c = last_may_trail_push (b ∷ cs) c

-- how a comment that waits is attached, where front tells whether all that wait are trailing together
abbrev pub placed : Gap → Bool → Comment → Comment
placed gap true c = attach_to Trailing gap.previous.end c
placed gap false c = attach_alone gap.previous gap.token c

or_true : (b : Bool) → (b || true) ≡ true
or_true true = refl
or_true false = refl

or_false : (b : Bool) → (b || false) ≡ b
or_false true = refl
or_false false = refl

mark_waiting : (followed : Bool) (found : Found) (preceded : Bool)
    → mark_one_if followed (waiting found preceded)
    ≡ record (waiting found preceded) { followed = is_line_kind found.kind || followed }
mark_waiting true found preceded =
    ap (λ f. record (waiting found preceded) { followed = f }) (sym (or_true (is_line_kind found.kind)))
mark_waiting false found preceded =
    ap (λ f. record (waiting found preceded) { followed = f }) (sym (or_false (is_line_kind found.kind)))

attached_by : (trailing : Bool) (end start : ℕ) (c : Comment)
    → (if trailing then attach_to Trailing end c else attach_to Leading start c)
    ≡ record c { position = if trailing then Trailing else Leading; attached_to = if trailing then end else start }
attached_by true end start c = refl
attached_by false end start c = refl

-- a comment that waited is placed as the walk places it
pub placed_waiting : (gap : Gap) (front preceded : Bool) (found : Found) (after : List Item)
    → placed gap front (mark_one_if (line_end_next after) (waiting found preceded))
    ≡ walked gap front preceded found after
placed_waiting gap true preceded found after =
    ap (λ c. placed gap true c) (mark_waiting (line_end_next after) found preceded)
placed_waiting gap false preceded found after =
    ap (λ c. placed gap false c) (mark_waiting (line_end_next after) found preceded)
    ∙ attached_by (trails_alone gap.previous gap.token preceded (stays_leading found.content)) gap.previous.end
    gap.token.start (record (waiting found preceded) { followed = is_followed found after })

-- a comment after a newline event waits
pub after_comment_waits : (attached pending : List Comment) (preceded : Bool) (previous : TokenParts) (found : Found)
    → after_comment found (state attached pending true preceded previous)
    ≡ state attached (pending ++ waiting found preceded ∷ []) true (is_line_kind found.kind) previous
after_comment_waits attached pending preceded previous found =
    elim (bool_cases (is_line_kind found.kind)) [ inl h ↦ rw h refl | inr h ↦ rw h refl ]

-- a line comment that is the first newline event
pub after_line_comment : (attached pending : List Comment) (preceded : Bool) (previous : TokenParts) (found : Found)
    → is_line_kind found.kind ≡ true
    → after_comment found (state attached pending false preceded previous)
    ≡ trail_pending_if (not (keeps_line_comment_leading previous.kind) && not (stays_leading found.content))
    (state attached (pending ++ waiting found preceded ∷ []) true true previous)
after_line_comment attached pending preceded previous found h = rw h refl

pub after_block_comment : (attached pending : List Comment) (preceded : Bool) (previous : TokenParts) (found : Found)
    → is_line_kind found.kind ≡ false
    → after_comment found (state attached pending false preceded previous)
    ≡ state attached (pending ++ waiting found preceded ∷ []) false false previous
after_block_comment attached pending preceded previous found h = rw h refl
