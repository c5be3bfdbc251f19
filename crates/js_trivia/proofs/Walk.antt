-- The attachment of a gap's comments as one walk over the events with two flags.
use Rattle.std.proofs.Common.{◌≡◌, Bool, true, false, List, [], ◌∷◌, refl, ◌∙◌, ap}
use Rattle.std.specs.Prelude.{not, ◌&&◌, ◌||◌, if◌then◌else◌}
use Rattle.js_text.specs.declared.comment.CommentPosition.TheVariants.{Leading, Trailing}
use Rattle.js_text.specs.declared.comment.Comment.{Comment}
use Rattle.js_grammar.specs.GapItems.{Found, Item, irregular, line_end, comment, Gap, has_newline_event}
use Rattle.js_grammar.specs.CommentClasses.{stays_leading}
use Rattle.js_text.specs.Comment.{is_line_kind}
use Rattle.js_grammar.specs.Attach.{is_preceded, is_followed, front_trails, trails_alone, attached, attach_from}

-- A comment, where front tells whether it is trailing with others, and preceded whether it is preceded.
abbrev pub walked : Gap → Bool → Bool → Found → List Item → Comment
walked gap front preceded found after =
    let trailing = front || trails_alone gap.previous gap.token preceded (stays_leading found.content) in
    record {
      span = found.span;
      kind = found.kind;
      position = if trailing then Trailing else Leading;
      attached_to = if trailing then gap.previous.end else gap.token.start;
      preceded = preceded;
      followed = is_followed found after;
      content = found.content;
    }

abbrev pub walk : Gap → Bool → Bool → List Item → List Comment
walk gap front preceded [] = []
walk gap front preceded (irregular span ∷ after) = walk gap front preceded after
walk gap front preceded (line_end ∷ after) = walk gap false true after
walk gap front preceded (comment found ∷ after) =
    walked gap front preceded found after ∷ walk gap (front && not (is_line_kind found.kind))
    (is_line_kind found.kind) after

-- whether a comment after these events is trailing with others
abbrev pub front_at : Gap → List Item → Bool
front_at gap before = front_trails gap && not (has_newline_event before)

not_past_newline_event : (f e h : Bool) → (f && not (e || h)) ≡ ((f && not h) && not e)
not_past_newline_event true true true = refl
not_past_newline_event true true false = refl
not_past_newline_event true false true = refl
not_past_newline_event true false false = refl
not_past_newline_event false e h = refl

past_line_end : (f h : Bool) → (f && not (true || h)) ≡ false
past_line_end true h = refl
past_line_end false h = refl

past_comment : (line first : Bool) → ((line || false) || (first && false)) ≡ line
past_comment true first = refl
past_comment false true = refl
past_comment false false = refl

-- after a comment the stretch is that comment alone
preceded_past_comment : (is_first : Bool) (found : Found) (before : List Item)
    → is_preceded is_first (comment found ∷ before) ≡ is_line_kind found.kind
preceded_past_comment is_first found before = past_comment (is_line_kind found.kind) is_first

-- the definition over the events before is the walk
pub attach_walks : (gap : Gap) (before after : List Item)
    → attach_from gap before after ≡ walk gap (front_at gap before) (is_preceded gap.is_first before) after
attach_walks gap before [] = refl
attach_walks gap before (irregular span ∷ after) = attach_walks gap (irregular span ∷ before) after
attach_walks gap before (line_end ∷ after) =
    rw (← past_line_end (front_trails gap) (has_newline_event before)) (attach_walks gap (line_end ∷ before) after)
attach_walks gap before (comment found ∷ after) =
    ap (λ cs. attached gap before found after ∷ cs)
    (attach_walks gap (comment found ∷ before) after
    ∙ ap (λ f. walk gap f (is_preceded gap.is_first (comment found ∷ before)) after)
    (not_past_newline_event (front_trails gap) (is_line_kind found.kind) (has_newline_event before))
    ∙ ap (λ p. walk gap (front_at gap before && not (is_line_kind found.kind)) p after)
    (preceded_past_comment gap.is_first found before))
