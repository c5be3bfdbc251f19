-- Ranges of annotations are ranges of comments that are held.
use Rattle.std.proofs.Common.{◌≡◌, ℕ, ◌+◌, ◌≤◌, ◌<◌, List, [], ◌∷◌, ◌++◌, length, take, drop, Option, Some, None}
use Rattle.std.proofs.Common.{sym, ap, subst, arith, length-append, length-drop}
use Rattle.std.proofs.Common.{suc, Bool, true, false}
use Rattle.std.specs.List.{position_from}
use Rattle.std.specs.Prelude.{IfSome, cond}
use Rattle.std.proofs.lemmas.List.{take-append-drop, length-take-le}
use Rattle.js_text.specs.declared.comment.Comment.{Comment}
use Rattle.js_text.specs.declared.comment.CommentRange.{CommentRange}
use Rattle.js_trivia.specs.Trivia.{IsRangeUpTo, AreRangesUpTo, is_span}

range_more : (m n : ℕ) (range : Option CommentRange) → m ≤ n → IfSome range (IsRangeUpTo m)
    → IfSome range (IsRangeUpTo n)
range_more m n None le h = h
range_more m n (Some range) le h =
    let ends : range.end ≤ m = h.end in
    record { start = h.start; end = omega arith }

-- and so among more comments
pub ranges_more : (m n : ℕ) (pure no_side_effects : Option CommentRange) → m ≤ n
    → AreRangesUpTo m pure no_side_effects → AreRangesUpTo n pure no_side_effects
ranges_more m n pure no_side_effects le h = record {
  pure_comments = range_more m n pure le h.pure_comments;
  no_side_effects_comments = range_more m n no_side_effects le h.no_side_effects_comments;
}

-- where one comment more is held
pub ranges_pushed : (cs new : List Comment) (c : Comment) (pure no_side_effects : Option CommentRange)
    → new ≡ cs ++ c ∷ [] → AreRangesUpTo (length cs) pure no_side_effects
    → AreRangesUpTo (length new) pure no_side_effects
ranges_pushed cs new c pure no_side_effects pushed h =
    ranges_more (length cs) (length new) pure no_side_effects
    (omega (arith, ap length pushed, length-append cs (c ∷ []))) h

-- where the comments are cut to those that the ranges are of
pub ranges_cut : (n p : ℕ) (cs : List Comment) (pure no_side_effects : Option CommentRange)
    → n ≤ length (take p cs ++ drop p cs) → AreRangesUpTo n pure no_side_effects
    → AreRangesUpTo (length (take n cs)) pure no_side_effects
ranges_cut n p cs pure no_side_effects le h =
    let whole : length (take p cs ++ drop p cs) ≡ length cs = ap length (take-append-drop p cs) in
    let within : n ≤ length cs = omega arith in
    subst (λ m. AreRangesUpTo m pure no_side_effects) (sym (length-take-le n cs within)) h

-- where all comments are attached, by their number
pub ranges_attached : (p : ℕ) (cs : List Comment) (pure no_side_effects : Option CommentRange) → p ≤ length cs
    → drop p cs ≡ [] → AreRangesUpTo (length cs) pure no_side_effects → AreRangesUpTo p pure no_side_effects
ranges_attached p cs pure no_side_effects within none h =
    let all : length cs ≡ p = omega (arith, length-drop p cs, ap length none) in
    subst (λ m. AreRangesUpTo m pure no_side_effects) all h

within_step : (b : Bool) (k i n : ℕ) (later : Option ℕ) → cond b (Some k) later ≡ Some i
    → (later ≡ Some i → i < n + (k + 1)) → i < suc n + k
within_step true k i n later e f = let same : k ≡ i = cc in omega arith
within_step false k i n later e f = let less : i < n + (k + 1) = f e in omega arith

-- a comment of a span is held at an index of the list
pub position_within : (k i start end : ℕ) (cs : List Comment) → position_from (is_span start end) k cs ≡ Some i
    → i < length cs + k
position_within k i start end [] e = absurd cc
position_within k i start end (c ∷ cs) e =
    within_step (is_span start end c) k i (length cs) (position_from (is_span start end) (k + 1) cs) e
    (position_within (k + 1) i start end cs)
