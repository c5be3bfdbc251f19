-- The last comment of a list by its index.
use Rattle.std.proofs.Common.{◌≡◌, ℕ, suc, ◌-◌, ◌≤◌, List, [], ◌∷◌, length, get_or, refl, ap, arith}
use Rattle.std.proofs.Math.ListN.{set}
use Rattle.std.specs.Prelude.{not, nat_lt, map}
use Rattle.js_trivia.specs.Trivia.{is_past}
use Rattle.js_text.specs.declared.comment.Comment.{Comment}
use Rattle.js_grammar.specs.CommentClasses.{stays_leading}
use Rattle.js_trivia.specs.Attachment.{mark_followed, mark_last_followed, last_may_trail}

pub mark_last_at : (cs : List Comment) (d : Comment) → 1 ≤ length cs
    → set cs (length cs - 1) (mark_followed (get_or cs (length cs - 1) d)) ≡ mark_last_followed cs
mark_last_at [] d h = absurd (omega arith)
mark_last_at (c ∷ []) d h = refl
mark_last_at (c ∷ b ∷ cs) d h =
    let e : length (c ∷ b ∷ cs) - 1 ≡ suc (length (b ∷ cs) - 1) = omega arith in
    rw e (ap (λ ds. c ∷ ds) (mark_last_at (b ∷ cs) d (omega arith)))

pub last_may_trail_at : (cs : List Comment) (d : Comment) → 1 ≤ length cs
    → not (stays_leading (get_or cs (length cs - 1) d).content) ≡ last_may_trail cs
last_may_trail_at [] d h = absurd (omega arith)
last_may_trail_at (c ∷ []) d h = refl
last_may_trail_at (c ∷ b ∷ cs) d h =
    let e : length (c ∷ b ∷ cs) - 1 ≡ suc (length (b ∷ cs) - 1) = omega arith in
    rw e (last_may_trail_at (b ∷ cs) d (omega arith))

pub is_past_at : {X : Type 0} (f : X → ℕ) (n : ℕ) (xs : List X) (d : X) → 1 ≤ length xs
    → nat_lt (f (get_or xs (length xs - 1) d)) n ≡ is_past n (map f xs)
is_past_at f n [] d h = absurd (omega arith)
is_past_at f n (c ∷ []) d h = refl
is_past_at f n (c ∷ b ∷ cs) d h =
    let e : length (c ∷ b ∷ cs) - 1 ≡ suc (length (b ∷ cs) - 1) = omega arith in
    rw e (is_past_at f n (b ∷ cs) d (omega arith))
