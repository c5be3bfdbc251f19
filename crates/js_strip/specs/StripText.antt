-- A text without its comments.
use Rattle.std.specs.Prelude.{ℕ, ◌<◌, ◌≤◌, List, [], ◌∷◌, ◌++◌, take, drop}
use Rattle.std.specs.Str.{IsCharBoundary}
use Rattle.js_text.specs.declared.comment.Comment.{Comment}
use Rattle.js_grammar.specs.Blanks.{stand_in}

-- the text with what stands for the comment in its place
abbrev pub without_comment : List ℕ → Comment → List ℕ
without_comment text comment =
    take comment.span.start text ++ stand_in comment.kind ∷ drop comment.span.end text

-- The text without these comments, which stand in it in this order. The last one is replaced first, so that the others
-- are still where they were.
abbrev pub strip_text : List ℕ → List Comment → List ℕ
strip_text text [] = text
strip_text text (comment ∷ comments) = without_comment (strip_text text comments) comment

-- The comment stands in the text at the place or behind it, with its ends on places of the text, and is not empty.
pub record StandsFrom (text : List ℕ) (place : ℕ) (comment : Comment) : Type 0 where
  pub behind : place ≤ comment.span.start
  pub ordered : comment.span.start ≤ comment.span.end
  pub some : comment.span.start < comment.span.end
  pub starts : IsCharBoundary text comment.span.start
  pub ends : IsCharBoundary text comment.span.end

-- The comments stand in the text from the place on, one behind the other.
abbrev pub StandInOrder : List ℕ → ℕ → List Comment → Type 0
StandInOrder text place [] = Unit {0}
StandInOrder text place (comment ∷ comments) =
    StandsFrom text place comment × StandInOrder text comment.span.end comments
