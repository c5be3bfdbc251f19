-- Whether the comments up to the first newline event are trailing, as one walk to that event.
use Rattle.std.proofs.Common.{◌≡◌, Bool, true, false, List, [], ◌∷◌, Option, Some, None, refl, sym, ◌∙◌, ap, ◌⊎◌, inl}
use Rattle.std.proofs.Common.{inr}
use Rattle.std.specs.Prelude.{not, ◌&&◌, ◌||◌, unwrap_or, if◌then◌else◌}
use Rattle.js_kind.specs.declared.kind.Kind.{Kind}
use Rattle.js_grammar.specs.TokensAround.{keeps_line_comment_leading}
use Rattle.js_grammar.specs.GapItems.{Found, Item, irregular, line_end, comment, Gap, has_newline_event}
use Rattle.js_grammar.specs.GapItems.{up_to_newline_event, last_comment, begins_with_line_end, from_newline_event}
use Rattle.js_grammar.specs.CommentClasses.{stays_leading}
use Rattle.js_text.specs.Comment.{is_line_kind}
use Rattle.js_grammar.specs.Attach.{may_trail, front_trails}

-- Where ready tells whether the last comment before may be trailing.
abbrev pub trails_from : Bool → Kind → List Item → Bool
trails_from ready previous [] = false
trails_from ready previous (irregular span ∷ xs) = trails_from ready previous xs
trails_from ready previous (line_end ∷ xs) = ready
trails_from ready previous (comment found ∷ xs) =
    if is_line_kind found.kind
    then not (keeps_line_comment_leading previous) && not (stays_leading found.content)
    else trails_from (not (stays_leading found.content)) previous xs

abbrev pub option_or : Option Found → Option Found → Option Found
option_or None l = l
option_or (Some c) l = Some c

option_or-some : (o : Option Found) (c : Found) → option_or o (Some c) ≡ Some (unwrap_or o c)
option_or-some None c = refl
option_or-some (Some d) c = refl

-- the last four conditions, where l is the last comment before
abbrev pub front_from : Option Found → Kind → List Item → Bool
front_from l previous xs =
    has_newline_event xs
    && may_trail (option_or (last_comment (up_to_newline_event xs)) l)
    && (begins_with_line_end (from_newline_event xs) || not (keeps_line_comment_leading previous))

pub bool_cases : (b : Bool) → (b ≡ true) ⊎ (b ≡ false)
bool_cases true = inl refl
bool_cases false = inr refl

and_true : (b : Bool) → (b && true) ≡ b
and_true true = refl
and_true false = refl

and_swap : (a b : Bool) → (a && b) ≡ (b && a)
and_swap true true = refl
and_swap true false = refl
and_swap false true = refl
and_swap false false = refl

pub front_walks : (l : Option Found) (previous : Kind) (xs : List Item)
    → front_from l previous xs ≡ trails_from (may_trail l) previous xs
front_walks l previous [] = refl
front_walks l previous (irregular span ∷ xs) = front_walks l previous xs
front_walks l previous (line_end ∷ xs) = and_true (may_trail l)
front_walks l previous (comment found ∷ xs) =
    elim (bool_cases (is_line_kind found.kind)) [
      | inl h ↦ rw h (and_swap (not (stays_leading found.content)) (not (keeps_line_comment_leading previous)))
      | inr h ↦ rw h (ap (λ o. has_newline_event xs && may_trail o
          && (begins_with_line_end (from_newline_event xs) || not (keeps_line_comment_leading previous)))
          (sym (option_or-some (last_comment (up_to_newline_event xs)) found))
          ∙ front_walks (Some found) previous xs)
    ]

option_or-none : (o : Option Found) → option_or o None ≡ o
option_or-none None = refl
option_or-none (Some c) = refl

and_four : (a b c d : Bool) → (a && b && c && d) ≡ (a && (b && c && d))
and_four true b c d = refl
and_four false b c d = refl

-- the five conditions
pub front_trails_walks : (gap : Gap) → front_trails gap
    ≡ (not gap.is_first && trails_from false gap.previous.kind gap.items)
front_trails_walks gap =
    and_four (not gap.is_first) (has_newline_event gap.items)
    (may_trail (last_comment (up_to_newline_event gap.items)))
    (begins_with_line_end (from_newline_event gap.items) || not (keeps_line_comment_leading gap.previous.kind))
    ∙ ap (λ o. not gap.is_first
    && (has_newline_event gap.items && may_trail o
    && (begins_with_line_end (from_newline_event gap.items)
    || not (keeps_line_comment_leading gap.previous.kind))))
    (sym (option_or-none (last_comment (up_to_newline_event gap.items))))
    ∙ ap (λ b. not gap.is_first && b) (front_walks None gap.previous.kind gap.items)
