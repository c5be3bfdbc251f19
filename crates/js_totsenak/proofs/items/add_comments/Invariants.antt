use Rattle.std.proofs.Common.{◌≡◌, ◌++◌, map, take}
use Rattle.js_totsenak.specs.Items.{comment_item}
use Rattle.js_totsenak.proofs.items.add_comments.Given as goal

-- The items of the comments so far were added.
abbrev pub invariant-loop-comment : goal.invariant-loop-comment
invariant-loop-comment l = l.items.items ≡ l.initial.items.items ++ map comment_item (take l.comment-index l.comments)
