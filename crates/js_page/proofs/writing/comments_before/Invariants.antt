use Rattle.std.proofs.Common.{◌≡◌, ◌+◌, drop}
use Rattle.js_page.specs.Elements.{comments_before}
use Rattle.js_page.proofs.writing.comments_before.Given as goal

-- All so far start before the place.
abbrev pub invariant-loop-comment : goal.invariant-loop-comment
invariant-loop-comment l =
    (l.count ≡ l.comment-index)
    × (comments_before l.to l.comments ≡ l.comment-index + comments_before l.to (drop l.comment-index l.comments))
