use Rattle.std.proofs.Common.{◌<◌, ◌^◌, length, map, take}
use Rattle.js_page.specs.Elements.{comment_element}
use Rattle.js_page.specs.Written.{WritesOn}
use Rattle.js_page.proofs.writing.Page.push_comments.Given as goal

-- The comments so far were written.
abbrev pub invariant-loop-comment : goal.invariant-loop-comment
invariant-loop-comment l =
    WritesOn (map comment_element (take l.comment-index l.comments)) l.initial.self l.self
    × (length l.self.left.now < 2 ^ 32)
